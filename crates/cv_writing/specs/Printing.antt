-- The text that is written for what a tree expects.
use Rattle.std.specs.Prelude.{◌≡◌, ℕ, List, ◌∷◌, ◌++◌, map}
use Rattle.cv_token.specs.declared.pairs.Pair.{Pair}
use Rattle.cv_lex.specs.declared.word.Mark.{Mark}
use Rattle.cv_lex.specs.declared.word.Mark.TheVariants as marks
use Rattle.cv_lex.specs.declared.word.Word.{Word}
use Rattle.cv_lex.specs.declared.word.Word.TheVariants as words
use Rattle.cv_readers.specs.Slots.{Slot, just, mark, all_slots, listed_slots}
use Rattle.cv_syntax.specs.declared.tree.Literal.{Literal}
use Rattle.cv_syntax.specs.declared.tree.Component.{Component}
use Rattle.cv_syntax.specs.Spelling.{literal_slots, name_slots}
use Rattle.cv_writing.specs.Written.{written}

-- the words, whatever their places and levels
abbrev pub words_expected : List Slot → List Word
words_expected ss = map (λ s. s.word) ss

-- the words with a space behind each
abbrev pub printed : List Slot → List ℕ
printed ss = written (words_expected ss)

-- what was written before, and these words behind it
abbrev pub Adds : List ℕ → List ℕ → List Slot → Type 0
Adds before after ss = after ≡ before ++ printed ss

-- a key of a dictionary, ":" and its value
abbrev pub entry_of : List ℕ → Literal → List Slot
entry_of key value = just (words.Text key) ∷ mark marks.Colon ∷ literal_slots value

abbrev pub pair_slots : Pair Literal → List Slot
pair_slots p = entry_of p.key p.value

-- a mark and an item
abbrev pub behind_mark : {X : Type 0} → Mark → (X → List Slot) → X → List Slot
behind_mark m spell x = mark m ∷ spell x

-- the text of items, each behind a mark
abbrev pub row : {X : Type 0} → Mark → (X → List Slot) → List X → List ℕ
row m spell xs = printed (all_slots (behind_mark m spell) xs)

-- the words of a component up to its body
abbrev pub head_slots : Component → List Slot
head_slots c =
    name_slots c.name
    ++ (mark marks.OpenParen ∷ listed_slots marks.CloseParen name_slots c.args)
    ++ listed_slots marks.Arrow name_slots c.inports
    ++ listed_slots marks.OpenBrace name_slots c.outports
