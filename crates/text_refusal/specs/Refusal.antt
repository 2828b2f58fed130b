-- What is wrong with a refused source, in a sentence a number; for 6 also what may be meant, by the token at the place and the two before it.
-- Definitions; rests on the tokens of the source.
use Rattle.std.specs.Prelude.{ℕ, Bool, List, [], ◌∷◌, ◌++◌, eqb, leb}
use Rattle.x_tokens.specs.Refusals as refusal
use Rattle.arm_word.specs.Choice.{pick}
use Rattle.x_spelling.specs.Kinds as kind
use Rattle.x_spelling.specs.Characters.{one_of}
use Rattle.x_tokens.specs.TokenList as token
use Rattle.x_tokens.specs.TokenList.{Entry}
use Rattle.x_grammar.specs.Grammar.{is_diadic}
use Rattle.arm_word.specs.Ascii.{ascii}
use Rattle.text_refusal.specs.declared.Near.{Near}

-- ── a sentence a number ──

unfoldable pub early_sentence : ℕ → List ℕ
early_sentence n =
    pick (eqb n refusal.long_source) (ascii "1: the source has more than 16,384 bytes\n")
    (pick (eqb n refusal.broken_token) (ascii "2: no token stands here: an unknown character, a comment without its second |, or a broken literal\n")
    (pick (eqb n refusal.large_number) (ascii "3: the number is too large: at most 2147483647, or #FFFFFFFF\n")
    (pick (eqb n refusal.long_name) (ascii "4: the name has more than 32 characters\n")
    (pick (eqb n refusal.many_tokens) (ascii "5: the source has more than 1,024 tokens, comments counted: this is the first of the others\n")
    (ascii "7: an expression or a process is nested more than 32 deep\n")))))

unfoldable pub late_sentence : ℕ → List ℕ
late_sentence n =
    pick (eqb n refusal.not_declared) (ascii "8: the name is not declared before this place\n")
    (pick (eqb n refusal.declared_twice) (ascii "9: the name is declared already\n")
    (pick (eqb n refusal.wrong_kind) (ascii "10: the name is of the wrong sort here: an array takes a subscript, a var none, a val no new value; a constant is a val\n")
    (pick (eqb n refusal.bad_length) (ascii "11: the length of the array is not 1 to 8,192\n")
    (pick (eqb n refusal.too_much) (ascii "12: with this name the source has more than 256 names or 8,192 data words\n")
    (pick (eqb n refusal.short_table) (ascii "13: the table is too short for so many tokens\n")
    (ascii "14: the code buffer is too short for so many tokens\n"))))))

-- every number but 6
abbrev pub sentence : ℕ → List ℕ
sentence n = pick (leb n refusal.deep_program) (early_sentence n) (late_sentence n)

-- ── 6: the token at the place, and the two before it ──

-- kinds; 0 is no token: before the first one, and at the end
abbrev pub no_token : ℕ
no_token = 0

-- the first token at the place or after it, after one of kind p, after one of kind b
unfoldable pub near_in : List Entry → ℕ → ℕ → ℕ → Near
near_in [] place b p = record { before = b; previous = p; met = no_token }
near_in (e ∷ es) place b p = pick (leb place e.place) (record { before = b; previous = p; met = e.kind }) (near_in es place p e.kind)

abbrev pub near : token.Outcome → ℕ → Near
near (token.read ts) place = near_in ts place no_token no_token
near (token.refused n q) place = record { before = no_token; previous = no_token; met = no_token }

-- a process may start after such a token
abbrev pub starts : ℕ → Bool
starts k = one_of (no_token ∷ kind.comment ∷ kind.open_brace ∷ kind.semicolon ∷ kind.then ∷ kind.else ∷ kind.do_word ∷ []) k

-- what may be meant: at the end of the source
unfoldable pub end_hint : ℕ → List ℕ
end_hint p =
    pick (eqb p no_token) (ascii "a program has one process at least: skip does nothing\n")
    (pick (eqb p kind.semicolon) (ascii "after a ; a process or a specification is missing\n")
    (ascii "perhaps an else, a process or a closing bracket is missing\n"))

-- at a = that stands after no operator, but after a token of kind p, after one of kind b
unfoldable pub equal_hint : ℕ → ℕ → List ℕ
equal_hint b p =
    pick (eqb p kind.name)
    (pick (starts b) (ascii "perhaps := is meant\n") (ascii "an expression has one operator; put a part of it in brackets\n"))
    (ascii "an expression has one operator, and := assigns\n")

-- at an operator
unfoldable pub operator_hint : Near → List ℕ
operator_hint n =
    pick (is_diadic n.previous) (ascii "two operators side by side: = compares, a sign stands in brackets, and a val takes no sign\n")
    (pick (eqb n.met kind.equal) (equal_hint n.before n.previous)
    (ascii "an expression has one operator, or + * and or xor again and again; put a part of it in brackets\n"))

-- at a name, after a token of kind p
unfoldable pub name_hint : ℕ → List ℕ
name_hint p = pick (eqb p kind.name) (ascii "perhaps a word such as var or if is not in small letters\n") (ascii "perhaps a ; or an operator is missing before this name\n")

-- at a token of another kind m
unfoldable pub token_hint : ℕ → ℕ → List ℕ
token_hint p m =
    pick (eqb m kind.semicolon) (ascii "perhaps an if without its else, or processes without { and }; no ; stands after the last process\n")
    (pick (eqb m kind.close_brace) (ascii "perhaps a ; before the } or an if without its else\n")
    (pick (eqb m kind.comma) (ascii "each name has a specification of its own: var a; var b;\n")
    (pick (eqb m kind.comment) (ascii "a comment stands before a specification or a process only\n")
    (pick (eqb m kind.name) (name_hint p) []))))

-- by the token at the place
unfoldable pub hint : Near → List ℕ
hint n =
    pick (eqb n.met no_token) (end_hint n.previous)
    (pick (is_diadic n.met) (operator_hint n) (token_hint n.previous n.met))

-- what was met
abbrev pub met_sentence : ℕ → List ℕ
met_sentence m = pick (eqb m no_token) (ascii "6: the source ends before the program does\n") (ascii "6: no program goes on with this token\n")

abbrev pub grammar_text : Near → List ℕ
grammar_text n = met_sentence n.met ++ hint n

-- ── the whole ──

unfoldable pub reason_of : List ℕ → ℕ → ℕ → List ℕ
reason_of source n place = pick (eqb n refusal.ungrammatical) (grammar_text (near (token.outcome source) place)) (sentence n)

-- no reason has more bytes
abbrev pub reason_limit : ℕ
reason_limit = 160
