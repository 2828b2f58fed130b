-- Numbers at the right of columns, and the heads and tails of lines. Laws; assumes nothing.
use Rattle.std.specs.Prelude.{◌≡◌, refl, List, [], ◌∷◌, ◌++◌, ℕ, ◌-◌, ◌/◌, ◌%◌, ◌≤◌, ◌<◌, Bool, ltb, length}
use Rattle.std.proofs.Common.{sym, ap, ◌∙◌, append_assoc, arith, lt-ltb, le-ltb, length-append, take_all}
use Rattle.arm_word.specs.Choice.{pick}
use Rattle.arm_word.specs.ChoiceLaws.{by_test, pick_t, pick_f}
use Rattle.std.proofs.lemmas.List.{length-replicate}
use Rattle.text_lines.specs.Text.{digit, decimal, fitted}
use Rattle.text_lines.specs.LineLaws.{digits_one, digits_step, length_digits}
use Rattle.text_position.specs.Position.{spaces}
use Rattle.text_names.specs.Names.{right, columns, signed, data_head, val_tail}

pub right_one : (w n : ℕ) → n < 10 → spaces (w - 1) ++ decimal n ≡ right w (decimal n)
right_one w n h = let e : length (decimal n) ≡ 1 = ap length (digits_one 8 n h) in ap (λ (k : ℕ). spaces (w - k) ++ decimal n) (sym e)

pub right_step : (w n : ℕ) → 10 ≤ n → n < 10000000000 → right (w - 1) (decimal (n / 10)) ++ decimal (n % 10) ≡ right w (decimal n)
right_step w n h b =
    let m = decimal (n / 10) in
    let d = digit (n % 10) ∷ [] in
    let one : decimal (n % 10) ≡ d = digits_one 8 (n % 10) (omega arith) in
    let all : decimal n ≡ m ++ d = digits_step 8 n h b in
    let k : w - 1 - length m ≡ w - length (m ++ d) = omega (arith, length-append m d) in
    append_assoc (spaces (w - 1 - length m)) m (decimal (n % 10))
    ∙ (λ j. spaces (k j) ++ (m ++ one j))
    ∙ ap (right w) (sym all)

-- a head fits in a line
pub head_fits : (sort : List ℕ) (first words : ℕ) → length sort ≤ 5 → fitted (data_head sort first words) ≡ data_head sort first words
head_fits sort first words h =
    take_all 128 (data_head sort first words)
    (simp length-append
    (omega (arith, length_digits 9 first, length_digits 9 words, length-replicate {A = ℕ} (columns - length (decimal first)) 32, length-replicate {A = ℕ} (columns - length (decimal words)) 32)))

pub signed_low : (w : ℕ) → w < 2147483648 → decimal w ≡ signed w
unfolding signed
signed_low w h = pick_t _ _ _ _ (lt-ltb w 2147483648 h) refl

pub signed_high : (w : ℕ) → 2147483648 ≤ w → 45 ∷ decimal (4294967296 - w) ≡ signed w
unfolding signed
signed_high w h = pick_f _ _ _ _ (le-ltb w 2147483648 h) refl

pub length_signed : (w : ℕ) → length (signed w) ≤ 11
unfolding signed
length_signed w =
    by_test (λ (t : Bool). length (pick t (decimal w) (45 ∷ decimal (4294967296 - w))) ≤ 11) (ltb w 2147483648) (λ _. omega (arith, length_digits 9 w))
    (λ _. omega (arith, length_digits 9 (4294967296 - w)))

-- a tail fits in a line
pub tail_fits : (w : ℕ) → fitted (val_tail w) ≡ val_tail w
tail_fits w = take_all 128 (val_tail w) (simp length-append (omega (arith, length_signed w)))
