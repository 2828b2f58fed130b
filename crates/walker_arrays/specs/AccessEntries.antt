-- The entries of an access list in a lent buffer. Definitions.
use Rattle.std.specs.Prelude.{ℕ, ◌/◌, List, [], ◌∷◌, ◌++◌, length, take, drop}
use Rattle.arm_word.specs.Access.{Kind, load, store, Access}

-- an entry is four words: 1 for a load or 2 for a store, the word's offset in data, the old and the new word
abbrev pub entry_words : ℕ
entry_words = 4

abbrev pub op_of : Kind → ℕ
op_of load = 1
op_of store = 2

abbrev pub entry : Access → List ℕ
entry a = op_of a.kind ∷ a.offset ∷ a.old ∷ a.new ∷ []

unfoldable pub entries : List Access → List ℕ
entries [] = []
entries (a ∷ l) = entry a ++ entries l

-- the entries of an access list that go into a buffer of n words: from number `first` on, as many as fit whole
abbrev pub shown : ℕ → ℕ → List Access → List Access
shown first n l = take (n / entry_words) (drop first l)

-- they stand at its front, and every other word is what it was
abbrev pub handed : ℕ → List ℕ → List Access → List ℕ
handed first buffer l = let e = entries (shown first (length buffer) l) in e ++ drop (length e) buffer
