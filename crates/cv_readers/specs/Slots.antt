-- What a tree expects of the words that spell it.
use Rattle.std.specs.Prelude.{◌≡◌, ℕ, suc, ◌≤◌, Option, Some, None, IfSome, List, [], ◌∷◌, ◌++◌}
use Rattle.std.specs.List.{AllByRecursion}
use Rattle.cv_lex.specs.declared.word.Mark.{Mark}
use Rattle.cv_lex.specs.declared.word.Mark.TheVariants as marks
use Rattle.cv_lex.specs.declared.word.Word.{Word}
use Rattle.cv_lex.specs.declared.word.Word.TheVariants as words
use Rattle.cv_lex.specs.declared.word.Placed.{Placed}

-- a word, its place where the tree keeps it, and how many levels are open at it, with the one that it opens
pub record Slot : Type 0 where
  pub word : Word
  pub at : Option ℕ
  pub level : ℕ

-- a word of no level whose place is not kept
abbrev pub just : Word → Slot
just word = record { word = word; at = None; level = 0 }

-- a word of no level at a place
abbrev pub placed : Word → ℕ → Slot
placed word at = record { word = word; at = Some at; level = 0 }

-- a mark whose place is not kept
abbrev pub mark : Mark → Slot
mark m = just (words.Mark m)

-- a mark that opens a level
abbrev pub opening : Mark → Slot
opening m = record { word = words.Mark m; at = None; level = 1 }

-- one level more round words
abbrev pub raise : List Slot → List Slot
raise [] = []
raise (s ∷ ss) = record { word = s.word; at = s.at; level = suc s.level } ∷ raise ss

-- words whose first stands at this place
abbrev pub place_first : ℕ → List Slot → List Slot
place_first at [] = []
place_first at (s ∷ ss) = record { word = s.word; at = Some at; level = s.level } ∷ ss

-- a word of a source is what the tree expects
abbrev pub IsExpected : Slot → Placed → Type 0
IsExpected s w = (s.word ≡ w.word) × IfSome s.at (λ at. at ≡ w.at)

-- words of a source are what the tree expects, one by one
abbrev pub Matches : List Slot → List Placed → Type 0
Matches [] [] = Unit {0}
Matches [] (w ∷ ws) = ⊥
Matches (s ∷ ss) [] = ⊥
Matches (s ∷ ss) (w ∷ ws) = IsExpected s w × Matches ss ws

-- at most n levels are open at each of these words
abbrev pub IsWithin : ℕ → List Slot → Type 0
IsWithin n = AllByRecursion (λ s. s.level ≤ n)

-- the words of items, one item behind another
abbrev pub all_slots : {X : Type 0} → (X → List Slot) → List X → List Slot
all_slots spell [] = []
all_slots spell (x ∷ xs) = spell x ++ all_slots spell xs

-- the words of items with a mark between them
abbrev pub sep_slots : {X : Type 0} → Mark → (X → List Slot) → List X → List Slot
sep_slots m spell [] = []
sep_slots m spell (x ∷ xs) = spell x ++ all_slots (λ y. mark m ∷ spell y) xs

-- the words of items with commas between them, and of the mark that closes them
abbrev pub listed_slots : {X : Type 0} → Mark → (X → List Slot) → List X → List Slot
listed_slots close spell xs = sep_slots marks.Comma spell xs ++ mark close ∷ []

-- there is an item, and P holds of each
abbrev pub SomeAll : {X : Type 0} → (X → Type 0) → List X → Type 0
SomeAll P [] = ⊥
SomeAll P (x ∷ xs) = P x × AllByRecursion P xs
