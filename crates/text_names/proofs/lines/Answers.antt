-- `text_names::lines` meets its contract: an accepted source's tokens are read, and the arrays hold them.
-- Assumes nothing.
use mathlib.Core.Path.{◌≡◌, ap, ◌∙◌}
use Rattle.x_tokens.specs.TokenList.{answer}
use Rattle.std.specs.Prelude.{ℕ, Result}
use Rattle.x_tokens.specs.declared.refusal.Refusal.{Refusal}
use lib.ListN.{length}
use borrow.Author.Rules.{rules}
use Rattle.text_names.specs.Tokens.{TokensOf, not_refused, first_tokens}
use Rattle.text_names.proofs.lines.Goals as goal

pub returns-in-Err : goal.returns-in-Err
returns-in-Err c =
    let t = c.tokens in
    let is = c.in-Err.is in
    absurd (not_refused c.args.source.now _ _ c.requires (t.ensures.source_value ∙ ap (λ (r : Result ℕ Refusal). answer r t.new.kinds t.new.places t.new.values) is))

pub put_names-requires : goal.put_names-requires
put_names-requires c =
    let t = c.tokens.new in
    let tokens : TokensOf c.args.source.now t.kinds t.places t.values c.in-Ok.n = search rules in
    let k : length t.kinds ≡ 1024 = search rules in
    let p : length t.places ≡ 1024 = search rules in
    let v : length t.values ≡ 1024 = search rules in
    (first_tokens c.args.source.now t.kinds t.places t.values c.in-Ok.n k p v tokens).read

pub returns-in-Ok : goal.returns-in-Ok
returns-in-Ok c =
    let t = c.tokens.new in
    let tokens : TokensOf c.args.source.now t.kinds t.places t.values c.in-Ok.n = search rules in
    let k : length t.kinds ≡ 1024 = search rules in
    let p : length t.places ≡ 1024 = search rules in
    let v : length t.values ≡ 1024 = search rules in
    let f = first_tokens c.args.source.now t.kinds t.places t.values c.in-Ok.n k p v tokens in
    rw (← f.lines) c.put_names.ensures
