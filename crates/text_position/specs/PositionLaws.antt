-- Line, column and the shown line are what a reader takes them for; and the steps of the code. Laws; assumes nothing.
use Rattle.std.specs.Prelude.{◌≡◌, ◌==◌, not, cond, filter, reverse, count_by, refl, Bool, List, [], ◌∷◌, ◌++◌, map, ℕ, zero, suc, ◌+◌, ◌-◌, ◌≤◌, ◌<◌, min, eqb, ltb, ◌⊎◌, length, take, drop, get_or}
use Rattle.std.proofs.Common.{sym, ap, ◌∙◌, arith, add-one, eq-eqb, ne_eqb, eqb-true, ltb-true, ltb-false, inl, inr, ⊎_elim, length-append, length-take, length-drop, drop_of_length-le, take-suc, drop-cons, take_all, drop-drop, get_or-take, get_or-drop, ext_get_or, length-take-le}
use Rattle.std.proofs.lemmas.Bool.{eqb-false}
use Rattle.std.specs.List.{prefix_len, suffix_len}
use Rattle.std.proofs.lemmas.List.{length-map, length-replicate, get_or_at, reverse-append, reverse-reverse}
use Rattle.std.proofs.lemmas.List.Sums.{length-filter}
use Rattle.std.proofs.Math.ListN.{get_or-append}
use Rattle.std.proofs.Math.Seq.{drop-length, take-nil, drop-nil}
use Rattle.text_lines.specs.Text.{fitted}
use Rattle.arm_word.specs.Choice.{pick}
use Rattle.arm_word.specs.ChoiceLaws.{by_test}
use Rattle.text_position.specs.Position.{line_feed, feed, feeds, onward, since, until, left_of, right_of, start_of, line_bytes, width, half_width, cut, spaces, shown, shown_line, caret_line}

-- ── one byte further on ──

pub feed_small : (b : ℕ) → feed b ≤ 1
unfolding feed
feed_small b = by_test (λ (t : Bool). pick t 1 0 ≤ 1) (eqb b line_feed) (λ _. omega arith) (λ _. omega arith)

pub onward_small : (n b : ℕ) → onward n b ≤ n + 1
unfolding onward
onward_small n b = by_test (λ (t : Bool). pick t 0 (n + 1) ≤ n + 1) (eqb b line_feed) (λ _. omega arith) (λ _. omega arith)

feeds_behind : (xs : List ℕ) (b : ℕ) → feeds (xs ++ (b ∷ [])) ≡ feeds xs + feed b
unfolding feeds
feeds_behind [] b = omega arith
feeds_behind (x ∷ xs) b = omega (arith, feeds_behind xs b)

since_behind : (xs : List ℕ) (n b : ℕ) → since (xs ++ (b ∷ [])) n ≡ onward (since xs n) b
unfolding since
since_behind [] n b = refl
since_behind (x ∷ xs) n b = since_behind xs (onward n x) b

pub feeds_more : (s : List ℕ) (i : ℕ) → i < length s → feeds (take (i + 1) s) ≡ feeds (take i s) + feed (get_or s i 0)
feeds_more s i h = rw (add-one, take-suc s i 0 h) (feeds_behind (take i s) (get_or s i 0))

pub since_more : (s : List ℕ) (i : ℕ) → i < length s → since (take (i + 1) s) 0 ≡ onward (since (take i s) 0) (get_or s i 0)
since_more s i h = rw (add-one, take-suc s i 0 h) (since_behind (take i s) 0 (get_or s i 0))

pub until_here : (s : List ℕ) (i : ℕ) → i < length s → get_or s i 0 ≡ line_feed → until (drop i s) ≡ 0
unfolding until
until_here s i h e = rw (drop-cons s i 0 h, eq-eqb (get_or s i 0) line_feed e)

pub until_more : (s : List ℕ) (i : ℕ) → i < length s → (get_or s i 0 ≡ line_feed → ⊥) → until (drop i s) ≡ suc (until (drop (i + 1) s))
unfolding until
until_more s i h e = rw (drop-cons s i 0 h, ne_eqb (get_or s i 0) line_feed e, add-one)

-- ── what the code counts ──

-- no line feed
abbrev other : ℕ → Bool
other b = not (b == line_feed)

feeds_filtered : (s : List ℕ) → length (filter (λ b. b == line_feed) s) ≡ feeds s
unfolding feeds feed
feeds_filtered [] = refl
feeds_filtered (b ∷ s) =
    by_test (λ (t : Bool). length (cond t (b ∷ filter (λ a. a == line_feed) s) (filter (λ a. a == line_feed) s)) ≡ pick t 1 0 + feeds s) (b == line_feed)
    (λ _. omega (arith, feeds_filtered s)) (λ _. omega (arith, feeds_filtered s))

pub feeds_counted : (s : List ℕ) → count_by (λ b. b == line_feed) s ≡ feeds s
feeds_counted s = sym (length-filter (λ b. b == line_feed) s) ∙ feeds_filtered s

pub until_counted : (s : List ℕ) → prefix_len other s ≡ until s
unfolding until
until_counted [] = refl
until_counted (b ∷ s) =
    by_test (λ (t : Bool). cond (not t) (1 + prefix_len other s) 0 ≡ pick t 0 (suc (until s))) (b == line_feed)
    (λ _. refl) (λ _. omega (arith, until_counted s))

-- by the bytes from the last to the first
since_reversed : (s : List ℕ) → prefix_len other s ≡ since (reverse s) 0
unfolding since onward
since_reversed [] = refl
since_reversed (b ∷ s) =
    by_test (λ (t : Bool). cond (not t) (1 + prefix_len other s) 0 ≡ pick t 0 (since (reverse s) 0 + 1)) (b == line_feed)
    (λ _. refl) (λ _. omega (arith, since_reversed s))
    ∙ sym (since_behind (reverse s) 0 b)
    ∙ ap (λ (l : List ℕ). since l 0) (sym (reverse-append (b ∷ []) s))

pub since_counted : (s : List ℕ) → suffix_len other s ≡ since s 0
since_counted s = since_reversed (reverse s) ∙ ap (λ (l : List ℕ). since l 0) (reverse-reverse s)

-- ── lists that grow at their end ──

spaces_behind : (k : ℕ) → spaces k ++ (32 ∷ []) ≡ spaces (suc k)
spaces_behind zero = refl
spaces_behind (suc k) = ap (λ (l : List ℕ). 32 ∷ l) (spaces_behind k)

pub one_space_more : (i : ℕ) → spaces i ++ (32 ∷ []) ≡ spaces (i + 1)
one_space_more i = spaces_behind i ∙ ap spaces (sym (add-one i))

map_behind : (f : ℕ → ℕ) (xs : List ℕ) (b : ℕ) → map f (xs ++ (b ∷ [])) ≡ map f xs ++ (f b ∷ [])
map_behind f [] b = refl
map_behind f (x ∷ xs) b = ap (λ (l : List ℕ). f x ∷ l) (map_behind f xs b)

pub one_shown_more : (s : List ℕ) (i : ℕ) → i < length s → map shown (take i s) ++ (shown (get_or s i 0) ∷ []) ≡ map shown (take (i + 1) s)
one_shown_more s i h = rw (add-one, take-suc s i 0 h) (sym (map_behind shown (take i s) (get_or s i 0)))

-- ── the part of the line that is shown ──

pub take_within : (place : ℕ) (s : List ℕ) → take (min place (length s)) s ≡ take place s
take_within place s = by_test (λ _. take (min place (length s)) s ≡ take place s) (ltb place (length s))
    (λ t. let h = ltb-true place (length s) t in let e : min place (length s) ≡ place = omega arith in rw e)
    (λ t. let h = ltb-false place (length s) t in take_all (min place (length s)) s (omega arith) ∙ sym (take_all place s h))

pub drop_within : (place : ℕ) (s : List ℕ) → drop (min place (length s)) s ≡ drop place s
drop_within place s = by_test (λ _. drop (min place (length s)) s ≡ drop place s) (ltb place (length s))
    (λ t. let h = ltb-true place (length s) t in let e : min place (length s) ≡ place = omega arith in rw e)
    (λ t. let h = ltb-false place (length s) t in let e : min place (length s) ≡ length s = omega arith in rw e (drop-length s ∙ sym (drop_of_length-le s h)))

drop_take : (o m : ℕ) (l : List ℕ) → drop o (take m l) ≡ take (m - o) (drop o l)
drop_take zero m l = let e : m ≡ m - 0 = omega arith in ap (λ (k : ℕ). take k l) e
drop_take (suc o) zero l = let e : 0 ≡ 0 - suc o = omega arith in drop-nil (suc o) ∙ ap (λ (k : ℕ). take k (drop (suc o) l)) e
drop_take (suc o) (suc m) [] = sym (take-nil (suc m - suc o))
drop_take (suc o) (suc m) (x ∷ l) = let e : m - o ≡ suc m - suc o = omega arith in drop_take o m l ∙ ap (λ (k : ℕ). take k (drop o l)) e

take_of_take : (w k : ℕ) (l : List ℕ) → take w (take k l) ≡ take (min w k) l
take_of_take w k l = ext_get_or 0 (take w (take k l)) (take (min w k) l) (simp length-take (omega arith))
    (λ i h. let b : i < length (take w (take k l)) = h in
    let c : (i < w) × (i < k) = (omega (arith, length-take w (take k l)), omega (arith, length-take w (take k l), length-take k l)) in
    get_or-take w (take k l) i 0 c.0 ∙ get_or-take k l i 0 c.1 ∙ sym (get_or-take (min w k) l i 0 (omega (arith, c.0, c.1))))

-- a part of a part
pub part_of : (w o m a : ℕ) (s : List ℕ) → take w (drop o (take m (drop a s))) ≡ take (min w (m - o)) (drop (a + o) s)
part_of w o m a s = ap (take w) (drop_take o m (drop a s)) ∙ take_of_take w (m - o) (drop o (drop a s)) ∙ ap (take (min w (m - o))) (drop-drop o a s)

-- the columns that are cut off leave the place in sight
pub in_sight : (left : ℕ) → (cut left ≤ left) × (left - cut left < width)
unfolding cut
in_sight left =
    by_test (λ (t : Bool). ltb left width ≡ t → (pick t 0 (left - half_width) ≤ left) × (left - pick t 0 (left - half_width) < width)) (ltb left width)
    (λ _ t. let h = ltb-true left width t in (omega arith, omega arith)) (λ _ t. let h = ltb-false left width t in (omega arith, omega arith)) refl

fits : (l : List ℕ) → length l ≤ 128 → fitted l ≡ l
fits l h = take_all 128 l h

pub shown_fits : (source : List ℕ) (place : ℕ) → fitted (shown_line source place) ≡ shown_line source place
unfolding shown_line
shown_fits source place =
    let part = take width (drop (cut (left_of source place)) (line_bytes source place)) in
    fits (map shown part ++ (line_feed ∷ []))
    (simp (length-append, length-map) (omega (arith, length-take width (drop (cut (left_of source place)) (line_bytes source place)))))

pub caret_fits : (source : List ℕ) (place : ℕ) → fitted (caret_line source place) ≡ caret_line source place
unfolding caret_line
caret_fits source place =
    let n = left_of source place - cut (left_of source place) in
    fits (spaces n ++ (94 ∷ line_feed ∷ [])) (simp length-append (omega (arith, length-replicate {A = ℕ} n 32, (in_sight (left_of source place)).1)))

-- the bytes from a place on, as a slice has them
pub rest_of : (at : ℕ) (s : List ℕ) → take (length s - at) (drop at s) ≡ drop at s
rest_of at s = take_all (length s - at) (drop at s) (omega (arith, length-drop at s))

-- ── what the code puts together ──

module _ (source : List ℕ) (place at left right end : ℕ) (is_at : at ≡ min place (length source)) (is_left : left ≡ since (take at source) 0)
    (is_right : right ≡ until (take (length source - at) (drop at source))) (low : left ≤ at) (is_end : end ≡ min (at - left + cut left + width) (at + right)) where
  left_is : left ≡ left_of source place
  left_is = is_left ∙ ap (λ (l : List ℕ). since l 0) (ap (λ (n : ℕ). take n source) is_at ∙ take_within place source)

  right_is : right ≡ right_of source place
  right_is = is_right ∙ ap until (rest_of at source ∙ ap (λ (n : ℕ). drop n source) is_at ∙ drop_within place source)

  start_is : at - left ≡ start_of source place
  start_is = ap (λ (n : ℕ). n - left) (is_at ∙ sym (length-take place source)) ∙ ap (λ (n : ℕ). length (take place source) - n) left_is

  -- the slice that is shown
  pub shown_part : take (end - (at - left + cut left)) (drop (at - left + cut left) source) ≡ take width (drop (cut (left_of source place)) (line_bytes source place))
  shown_part =
      let size : end - (at - left + cut left) ≡ min width (left + right - cut left) = omega (arith, is_end, (in_sight left).0) in
      ap (λ (n : ℕ). take n (drop (at - left + cut left) source)) size
      ∙ sym (part_of width (cut left) (left + right) (at - left) source)
      ∙ (λ j. take width (drop (cut (left_is j)) (take (left_is j + right_is j) (drop (start_is j) source))))

-- ── for readers: line, column and caret are right ──

since_bound : (bs : List ℕ) (n : ℕ) → since bs n ≤ n + length bs
unfolding since
since_bound [] n = omega arith
since_bound (b ∷ bs) n = omega (arith, since_bound bs (onward n b), onward_small n b)

onward_feed : (n b : ℕ) → b ≡ line_feed → onward n b ≡ 0
unfolding onward
onward_feed n b e = rw (eq-eqb b line_feed e)

onward_other : (n b : ℕ) → ¬ (b ≡ line_feed) → onward n b ≡ n + 1
unfolding onward
onward_other n b e = rw (ne_eqb b line_feed e)

-- no line feed among the last bytes
since_none : (bs : List ℕ) (n i : ℕ) → i < length bs → length bs ≤ i + since bs n → ¬ (get_or bs i 0 ≡ line_feed)
unfolding since
since_none [] n i h l e = omega arith
since_none (b ∷ bs) n zero h l e = omega (arith, since_bound bs (onward n b), onward_feed n b e)
since_none (b ∷ bs) n (suc i) h l e = since_none bs (onward n b) i (omega arith) (omega arith) e

-- and one before them, if there are bytes before them
abbrev Preceded : List ℕ → ℕ → Type 0
Preceded bs k = (k < length bs) × (get_or bs (length bs - k - 1) 0 ≡ line_feed)

preceded_more : (b : ℕ) (bs : List ℕ) (k : ℕ) → Preceded bs k → Preceded (b ∷ bs) k
preceded_more b bs k h =
    let z : suc (length bs) - k - 1 ≡ suc (length bs - k - 1) = omega (arith, h.0) in
    (omega (arith, h.0), rw z h.1)

preceded_here : (b : ℕ) (bs : List ℕ) (k : ℕ) → k ≡ length bs → b ≡ line_feed → Preceded (b ∷ bs) k
preceded_here b bs k e f =
    let z : suc (length bs) - k - 1 ≡ 0 = omega arith in
    (omega arith, rw z f)

since_step : (b : ℕ) (bs : List ℕ) (n k : ℕ) → (k ≡ onward n b + length bs) ⊎ Preceded bs k → (k ≡ n + suc (length bs)) ⊎ Preceded (b ∷ bs) k
since_step b bs n k (inr h) = inr (preceded_more b bs k h)
since_step b bs n k (inl e) =
    by_test (λ (t : Bool). (k ≡ n + suc (length bs)) ⊎ Preceded (b ∷ bs) k) (eqb b line_feed)
    (λ t. let f = eqb-true b line_feed t in inr (preceded_here b bs k (omega (arith, e, onward_feed n b f)) f))
    (λ t. inl (omega (arith, e, onward_other n b (eqb-false b line_feed t))))

since_feed : (bs : List ℕ) (n : ℕ) → (since bs n ≡ n + length bs) ⊎ Preceded bs (since bs n)
unfolding since
since_feed [] n = inl (omega arith)
since_feed (b ∷ bs) n = since_step b bs n (since bs (onward n b)) (since_feed bs (onward n b))

-- no line feed up to the line's end
until_none : (bs : List ℕ) (i : ℕ) → i < until bs → ¬ (get_or bs i 0 ≡ line_feed)
unfolding until
until_none [] i = λ h e. omega arith
until_none (b ∷ bs) zero =
    by_test (λ (t : Bool). 0 < pick t 0 (suc (until bs)) → ¬ (b ≡ line_feed)) (eqb b line_feed) (λ _ h e. omega arith) (λ t h. eqb-false b line_feed t)
until_none (b ∷ bs) (suc i) =
    by_test (λ (t : Bool). suc i < pick t 0 (suc (until bs)) → ¬ (get_or bs i 0 ≡ line_feed)) (eqb b line_feed)
    (λ _ h e. omega arith) (λ _ h. until_none bs i (omega arith))

-- where there is one, or the end
until_feed : (bs : List ℕ) → (until bs ≡ length bs) ⊎ (get_or bs (until bs) 0 ≡ line_feed)
unfolding until
until_feed [] = inl refl
until_feed (b ∷ bs) =
    by_test (λ (t : Bool). (pick t 0 (suc (until bs)) ≡ suc (length bs)) ⊎ (get_or (b ∷ bs) (pick t 0 (suc (until bs))) 0 ≡ line_feed)) (eqb b line_feed)
    (λ t. inr (eqb-true b line_feed t)) (λ _. ⊎_elim (λ e. inl (ap suc e)) (λ e. inr e) (until_feed bs))

until_some : (bs : List ℕ) → 0 < length bs → ¬ (get_or bs 0 0 ≡ line_feed) → 0 < until bs
unfolding until
until_some [] h e = absurd (omega arith)
until_some (b ∷ bs) h e = rw (ne_eqb b line_feed e) (omega arith)

-- the line of a place: its bytes before the place and from it on, with no line feed among them, between two line feeds or the source's ends
pub record LineOf (source : List ℕ) (place : ℕ) : Type 0 where
  pub joins : start_of source place + left_of source place ≡ place
  pub first : (start_of source place ≡ 0) ⊎ (get_or source (start_of source place - 1) 0 ≡ line_feed)
  pub before : (i : ℕ) → start_of source place ≤ i → i < place → ¬ (get_or source i 0 ≡ line_feed)
  pub from : (i : ℕ) → i < right_of source place → ¬ (get_or source (place + i) 0 ≡ line_feed)
  pub last : (place + right_of source place ≡ length source) ⊎ (get_or source (place + right_of source place) 0 ≡ line_feed)

getD_of_map : (l : List ℕ) (i : ℕ) → i < length l → get_or (map shown l) i 0 ≡ shown (get_or l i 0)
getD_of_map [] i h = absurd (omega arith)
getD_of_map (x ∷ l) zero h = refl
getD_of_map (x ∷ l) (suc i) h = getD_of_map l i (omega arith)

pub line_right : (source : List ℕ) (place : ℕ) → place ≤ length source → LineOf source place
line_right source place h =
    let t = take place source in
    let k = left_of source place in
    let n : length t ≡ place = length-take-le place source h in
    let low : k ≤ place = omega (arith, n, since_bound t 0) in
    let d = length-drop place source in
    record {
      joins = omega (arith, n, low);
      first = ⊎_elim (λ e. inl (omega (arith, e, n)))
          (λ p.
          let z : length t - k - 1 ≡ start_of source place - 1 = refl in
          inr (sym (get_or-take place source (start_of source place - 1) 0 (omega (arith, n, p.0))) ∙ p.1)) (since_feed t 0);
      before = λ i l b e. since_none t 0 i (omega (arith, n)) (omega (arith, n, low, l)) (get_or-take place source i 0 b ∙ e);
      from = λ i b e. until_none (drop place source) i b (get_or-drop place source i 0 ∙ e);
      last = ⊎_elim (λ e. inl (omega (arith, e, d))) (λ e. inr (sym (get_or-drop place source (right_of source place) 0) ∙ e)) (until_feed (drop place source));
    }

-- the caret stands below the place's byte
pub caret_below : (source : List ℕ) (place : ℕ) → place < length source → ¬ (get_or source place 0 ≡ line_feed)
    → get_or (shown_line source place) (left_of source place - cut (left_of source place)) 0 ≡ shown (get_or source place 0)
unfolding shown_line
caret_below source place h e =
    let k = left_of source place in
    let r = right_of source place in
    let a = start_of source place in
    let i = k - cut k in
    let l = line_bytes source place in
    let part = take width (drop (cut k) l) in
    let joins = (line_right source place (omega arith)).joins in
    let some : 0 < r = until_some (drop place source) (omega (arith, length-drop place source)) (λ z. e (ap (λ (n : ℕ). get_or source n 0) (omega arith) ∙ sym (get_or-drop place source 0 0) ∙ z)) in
    let room : i < length part = omega (arith, (in_sight k).0, (in_sight k).1, length-take width (drop (cut k) l), length-drop (cut k) l, length-take (k + r) (drop a source), length-drop a source) in
    let z : a + (cut k + i) ≡ place = omega (arith, (in_sight k).0, joins) in
    get_or-append (map shown part) (line_feed ∷ []) 0 i (rw length-map room)
    ∙ getD_of_map part i room
    ∙ ap shown (get_or-take width (drop (cut k) l) i 0 (in_sight k).1 ∙ get_or-drop (cut k) l i 0 ∙ get_or-take (k + r) (drop a source) (cut k + i) 0 (omega (arith, (in_sight k).0, some))
    ∙ get_or-drop a source (cut k + i) 0 ∙ ap (λ (n : ℕ). get_or source n 0) z)

pub caret_there : (source : List ℕ) (place : ℕ) → get_or (caret_line source place) (left_of source place - cut (left_of source place)) 0 ≡ 94
unfolding caret_line
caret_there source place =
    let n = left_of source place - cut (left_of source place) in
    get_or_at (spaces n) 94 (line_feed ∷ []) 0 n (length-replicate {A = ℕ} n 32)
