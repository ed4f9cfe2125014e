-- Which words spell which script, and where words begin none.
use Rattle.std.specs.Prelude.{◌≡◌, ℕ, suc, List, [], ◌∷◌, ◌++◌}
use Rattle.cv_lex.specs.declared.word.Placed.{Placed}
use Rattle.cv_readers.specs.Slots.{Slot, IsExpected, Matches, IsWithin}
use Rattle.cv_syntax.specs.declared.tree.Script.{Script}
use Rattle.cv_syntax.specs.declared.fault.ParseFault.{ParseFault}
use Rattle.cv_syntax.specs.declared.fault.ParseFault.TheVariants as faults
use Rattle.cv_syntax.specs.Whole.{most_levels}
use Rattle.cv_syntax.specs.Spelling.{script_slots, WholeScript}

-- these words spell this script: it can be written, no literal or expression nests over 16, and each word is the script's, at the place that the script keeps
pub record SpellsTree (ws : List Placed) (script : Script) : Type 0 where
  pub whole : WholeScript script
  pub low : IsWithin most_levels (script_slots script)
  pub fits : Matches (script_slots script) ws

-- a script begins with these words, at none of which a level over 16 is open
pub record Begins (front : List Placed) : Type 0 where
  pub script : Script
  pub ss : List Slot
  pub more : List Slot
  pub split : script_slots script ≡ ss ++ more
  pub fits : Matches ss front
  pub low : IsWithin most_levels ss
  pub whole : WholeScript script

-- a script of any depth begins with these words
pub record BeginsAny (front : List Placed) : Type 0 where
  pub script : Script
  pub ss : List Slot
  pub more : List Slot
  pub split : script_slots script ≡ ss ++ more
  pub fits : Matches ss front
  pub whole : WholeScript script

-- the place of the first of these words, or the source's length where there is none
abbrev pub first_place : ℕ → List Placed → ℕ
first_place end [] = end
first_place end (w ∷ ws) = w.at

-- the words begin a script as far as the place, and none of any depth with the word at the place; where no word is left they spell no script
pub record IsUnexpected (end : ℕ) (ws : List Placed) (at : ℕ) : Type 0 where
  pub front : List Placed
  pub bad : List Placed
  pub whole : ws ≡ front ++ bad
  pub place : at ≡ first_place end bad
  pub begins : Begins front
  pub first : (w : Placed) (rest : List Placed) → bad ≡ w ∷ rest → ¬ BeginsAny (front ++ w ∷ [])
  pub unfinished : bad ≡ [] → (script : Script) → ¬ SpellsTree ws script

-- the words begin a script as far as the place and with the word at the place, which opens the 17th level; no script begins with these words in which at most 16 levels are open at each of them
pub record IsTooDeep (ws : List Placed) (at : ℕ) : Type 0 where
  pub front : List Placed
  pub w : Placed
  pub rest : List Placed
  pub words : ws ≡ front ++ w ∷ rest
  pub place : at ≡ w.at
  pub script : Script
  pub ss : List Slot
  pub s : Slot
  pub more : List Slot
  pub split : script_slots script ≡ ss ++ s ∷ more
  pub fits : Matches ss front
  pub here : IsExpected s w
  pub low : IsWithin most_levels ss
  pub level : s.level ≡ suc most_levels
  pub whole : WholeScript script
  pub first : ¬ Begins (front ++ w ∷ [])

-- the words of a source of that length have the fault
abbrev pub HasFault : ℕ → List Placed → ParseFault → Type 0
HasFault end ws (faults.Unexpected at) = IsUnexpected end ws at
HasFault end ws (faults.TooDeep at) = IsTooDeep ws at
HasFault end ws faults.OutOfMemory = ⊥

-- a fault is the words', but want of memory may come at any time
abbrev pub IsFault : ℕ → List Placed → ParseFault → Type 0
IsFault end ws (faults.Unexpected at) = HasFault end ws (faults.Unexpected at)
IsFault end ws (faults.TooDeep at) = HasFault end ws (faults.TooDeep at)
IsFault end ws faults.OutOfMemory = Unit {0}
