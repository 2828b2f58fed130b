-- `gutilamboy_numbers::instruction_words` meets its contract: the answers are the definition's, test by test and call by call.
-- Rests on the definitions that its contract cites; assumes nothing.
use mathlib.Core.Path.{sym, ap, ◌∙◌}
use Rattle.gutilamboy_numbers.specs.Numbers.{instruction_words}
use Rattle.gutilamboy_numbers.proofs.instruction_words.Goals as goal

pub returns-in-Shli : goal.returns-in-Shli
unfolding instruction_words
returns-in-Shli c = c.row.ensures ∙ sym (ap instruction_words c.in-Shli.is)

pub returns-in-Shri : goal.returns-in-Shri
unfolding instruction_words
returns-in-Shri c = c.row-in-Shri.ensures ∙ sym (ap instruction_words c.in-Shri.is)

pub returns-in-Ashri : goal.returns-in-Ashri
unfolding instruction_words
returns-in-Ashri c = c.row-in-Ashri.ensures ∙ sym (ap instruction_words c.in-Ashri.is)

pub returns-in-Addr : goal.returns-in-Addr
unfolding instruction_words
returns-in-Addr c = c.row-in-Addr.ensures ∙ sym (ap instruction_words c.in-Addr.is)

pub returns-in-Subr : goal.returns-in-Subr
unfolding instruction_words
returns-in-Subr c = c.row-in-Subr.ensures ∙ sym (ap instruction_words c.in-Subr.is)

pub returns-in-Movi : goal.returns-in-Movi
unfolding instruction_words
returns-in-Movi c = c.row-in-Movi.ensures ∙ sym (ap instruction_words c.in-Movi.is)

pub returns-in-Addi : goal.returns-in-Addi
unfolding instruction_words
returns-in-Addi c = c.row-in-Addi.ensures ∙ sym (ap instruction_words c.in-Addi.is)

pub returns-in-Subi : goal.returns-in-Subi
unfolding instruction_words
returns-in-Subi c = c.row-in-Subi.ensures ∙ sym (ap instruction_words c.in-Subi.is)

pub returns-in-Ldrpci : goal.returns-in-Ldrpci
unfolding instruction_words
returns-in-Ldrpci c = c.row-in-Ldrpci.ensures ∙ sym (ap instruction_words c.in-Ldrpci.is)

pub returns-in-Strspi : goal.returns-in-Strspi
unfolding instruction_words
returns-in-Strspi c = c.row-in-Strspi.ensures ∙ sym (ap instruction_words c.in-Strspi.is)

pub returns-in-Ldrspi : goal.returns-in-Ldrspi
unfolding instruction_words
returns-in-Ldrspi c = c.row-in-Ldrspi.ensures ∙ sym (ap instruction_words c.in-Ldrspi.is)

pub returns-in-Addpci : goal.returns-in-Addpci
unfolding instruction_words
returns-in-Addpci c = c.row-in-Addpci.ensures ∙ sym (ap instruction_words c.in-Addpci.is)

pub returns-in-Addspi : goal.returns-in-Addspi
unfolding instruction_words
returns-in-Addspi c = c.row-in-Addspi.ensures ∙ sym (ap instruction_words c.in-Addspi.is)

pub returns-in-Andr : goal.returns-in-Andr
unfolding instruction_words
returns-in-Andr c = c.row-in-Andr.ensures ∙ sym (ap instruction_words c.in-Andr.is)

pub returns-in-Xorr : goal.returns-in-Xorr
unfolding instruction_words
returns-in-Xorr c = c.row-in-Xorr.ensures ∙ sym (ap instruction_words c.in-Xorr.is)

pub returns-in-Shl : goal.returns-in-Shl
unfolding instruction_words
returns-in-Shl c = c.row-in-Shl.ensures ∙ sym (ap instruction_words c.in-Shl.is)

pub returns-in-Shr : goal.returns-in-Shr
unfolding instruction_words
returns-in-Shr c = c.row-in-Shr.ensures ∙ sym (ap instruction_words c.in-Shr.is)

pub returns-in-Negr : goal.returns-in-Negr
unfolding instruction_words
returns-in-Negr c = c.row-in-Negr.ensures ∙ sym (ap instruction_words c.in-Negr.is)

pub returns-in-Orr : goal.returns-in-Orr
unfolding instruction_words
returns-in-Orr c = c.row-in-Orr.ensures ∙ sym (ap instruction_words c.in-Orr.is)

pub returns-in-Mul : goal.returns-in-Mul
unfolding instruction_words
returns-in-Mul c = c.row-in-Mul.ensures ∙ sym (ap instruction_words c.in-Mul.is)

pub returns-in-Mvnr : goal.returns-in-Mvnr
unfolding instruction_words
returns-in-Mvnr c = c.row-in-Mvnr.ensures ∙ sym (ap instruction_words c.in-Mvnr.is)

pub returns-in-Str : goal.returns-in-Str
unfolding instruction_words
returns-in-Str c = c.row-in-Str.ensures ∙ sym (ap instruction_words c.in-Str.is)

pub returns-in-Ldr : goal.returns-in-Ldr
unfolding instruction_words
returns-in-Ldr c = c.row-in-Ldr.ensures ∙ sym (ap instruction_words c.in-Ldr.is)

pub returns-in-Stri : goal.returns-in-Stri
unfolding instruction_words
returns-in-Stri c = c.row-in-Stri.ensures ∙ sym (ap instruction_words c.in-Stri.is)

pub returns-in-Ldri : goal.returns-in-Ldri
unfolding instruction_words
returns-in-Ldri c = c.row-in-Ldri.ensures ∙ sym (ap instruction_words c.in-Ldri.is)

pub returns-in-Incsp : goal.returns-in-Incsp
unfolding instruction_words
returns-in-Incsp c = c.row-in-Incsp.ensures ∙ sym (ap instruction_words c.in-Incsp.is)

pub returns-in-Decsp : goal.returns-in-Decsp
unfolding instruction_words
returns-in-Decsp c = c.row-in-Decsp.ensures ∙ sym (ap instruction_words c.in-Decsp.is)

pub returns-in-Svc : goal.returns-in-Svc
unfolding instruction_words
returns-in-Svc c = c.row-in-Svc.ensures ∙ sym (ap instruction_words c.in-Svc.is)

pub returns-in-Beq : goal.returns-in-Beq
unfolding instruction_words
returns-in-Beq c = c.row-in-Beq.ensures ∙ sym (ap instruction_words c.in-Beq.is)

pub returns-in-Bne : goal.returns-in-Bne
unfolding instruction_words
returns-in-Bne c = c.row-in-Bne.ensures ∙ sym (ap instruction_words c.in-Bne.is)

pub returns-in-Bge : goal.returns-in-Bge
unfolding instruction_words
returns-in-Bge c = c.row-in-Bge.ensures ∙ sym (ap instruction_words c.in-Bge.is)

pub returns-in-Blt : goal.returns-in-Blt
unfolding instruction_words
returns-in-Blt c = c.row-in-Blt.ensures ∙ sym (ap instruction_words c.in-Blt.is)

pub returns-in-Bu : goal.returns-in-Bu
unfolding instruction_words
returns-in-Bu c = c.row-in-Bu.ensures ∙ sym (ap instruction_words c.in-Bu.is)

pub returns-in-Bl : goal.returns-in-Bl
unfolding instruction_words
returns-in-Bl c = c.row-in-Bl.ensures ∙ sym (ap instruction_words c.in-Bl.is)
