-- Readers of words: what they answer, and the readers of one word.
use Rattle.std.specs.Prelude.{◌≡◌, ℕ, Bool, true, false, List, [], ◌∷◌, length, Result, Ok, Err, Option, Some, None, if◌then◌else◌, ◌==◌, ◌&&◌}
use Rattle.std.specs.Borrow.{Bor}
use Rattle.cv_lex.specs.declared.word.Mark.{Mark}
use Rattle.cv_lex.specs.declared.word.Reserved.{Reserved}
use Rattle.cv_lex.specs.declared.word.Word.{Word}
use Rattle.cv_lex.specs.declared.word.Word.TheVariants as words
use Rattle.cv_lex.specs.declared.word.Mark.TheVariants as marks
use Rattle.cv_lex.specs.declared.word.Reserved.TheVariants as reserved
use Rattle.cv_lex.specs.declared.word.Placed.{Placed}
use Rattle.cv_readers.specs.declared.name.Name.{Name}
use Rattle.cv_readers.specs.declared.stop.Stop.{Stop}
use Rattle.cv_readers.specs.declared.stop.Stop.TheVariants as stops

-- where a reading stops: at a level too many, or at a word that cannot stand there; and how many words are left from that word on
pub record Miss : Type 0 where
  pub deep : Bool
  pub left : ℕ

-- what was read, and the words behind it
abbrev pub Read : Type 0 → Type 0
Read X = Result (X × List Placed) Miss

-- a reader of words
abbrev pub Reader : Type 0 → Type 0
Reader X = List Placed → Read X

-- the first of these words cannot stand there
abbrev pub unexpected : {X : Type 0} → List Placed → Read X
unexpected ws = Err (record { deep = false; left = length ws })

-- the first of these words opens a level too many
abbrev pub too_deep : {X : Type 0} → List Placed → Read X
too_deep ws = Err (record { deep = true; left = length ws })

infixl 10 ◌>>=◌
-- one reading behind another
abbrev pub ◌>>=◌ : {X Y : Type 0} → Read X → (X × List Placed → Read Y) → Read Y
(Ok x) >>= next = next x
(Err miss) >>= next = Err miss

-- a reading that stopped; want of memory may come at any time
abbrev pub Fails : {X : Type 0} → Stop → Read X → Type 0
Fails (stops.Unexpected n) read = read ≡ Err (record { deep = false; left = n })
Fails (stops.TooDeep n) read = read ≡ Err (record { deep = true; left = n })
Fails stops.OutOfMemory read = Unit {0}

-- what a function answered is what the reading is, but for want of memory
abbrev pub Gives : {X : Type 0} → Result (X × Bor (List Placed)) Stop → Read X → Type 0
Gives (Ok x) read = read ≡ Ok (x.0, x.1.now)
Gives (Err stop) read = Fails stop read

-- the same for a function that answers the words behind alone
abbrev pub GivesRest : Result (Bor (List Placed)) Stop → Read (Unit {0}) → Type 0
GivesRest (Ok rest) read = read ≡ Ok (tt, rest.now)
GivesRest (Err stop) read = Fails stop read

-- ---- one word

-- a word that was found, or one that cannot stand there
abbrev pub found_word : {X : Type 0} → Option X → Placed → List Placed → Read X
found_word (Some x) w ws = Ok (x, ws)
found_word None w ws = unexpected (w ∷ ws)

-- the reader of one word, by what a word is
abbrev pub word_at : {X : Type 0} → (Placed → Option X) → Reader X
word_at what [] = unexpected []
word_at what (w ∷ ws) = found_word (what w) w ws

-- each mark has a number of its own
abbrev pub mark_no : Mark → ℕ
mark_no marks.OpenParen = 0
mark_no marks.CloseParen = 1
mark_no marks.OpenBrace = 2
mark_no marks.CloseBrace = 3
mark_no marks.OpenBracket = 4
mark_no marks.CloseBracket = 5
mark_no marks.Comma = 6
mark_no marks.Colon = 7
mark_no marks.Dot = 8
mark_no marks.Equals = 9
mark_no marks.Greater = 10
mark_no marks.Ampersand = 11
mark_no marks.Bar = 12
mark_no marks.Tilde = 13
mark_no marks.Arrow = 14

-- each reserved name has a number of its own
abbrev pub reserved_no : Reserved → ℕ
reserved_no reserved.Component = 0
reserved_no reserved.Define = 1
reserved_no reserved.Rule = 2
reserved_no reserved.Apply = 3
reserved_no reserved.Voidport = 4
reserved_no reserved.True = 5
reserved_no reserved.False = 6
reserved_no reserved.Null = 7

-- whether a word is this mark
abbrev pub is_mark : Mark → Word → Bool
is_mark m (words.Mark found) = mark_no m == mark_no found
is_mark m _ = false

-- whether a word is this reserved name
abbrev pub is_reserved : Reserved → Word → Bool
is_reserved r (words.Reserved found) = reserved_no r == reserved_no found
is_reserved r _ = false

-- something where the test holds
abbrev pub when : {X : Type 0} → Bool → X → Option X
when test x = if test then Some x else None

-- this mark
abbrev pub mark_at : Mark → Reader (Unit {0})
mark_at m = word_at (λ w. when (is_mark m w.word) tt)

-- this reserved name, whose place is kept
abbrev pub reserved_at : Reserved → Reader ℕ
reserved_at r = word_at (λ w. when (is_reserved r w.word) w.at)

-- a name with its place
abbrev pub name_in : ℕ → Word → Option Name
name_in at (words.Name text) = Some (record { text = text; at = at })
name_in at _ = None

abbrev pub name_at : Reader Name
name_at = word_at (λ w. name_in w.at w.word)

-- what a text says
abbrev pub text_in : Word → Option (List ℕ)
text_in (words.Text text) = Some text
text_in _ = None

abbrev pub text_at : Reader (List ℕ)
text_at = word_at (λ w. text_in w.word)

-- whether the first word passes a test
abbrev pub first_is : (Word → Bool) → List Placed → Bool
first_is test [] = false
first_is test (w ∷ ws) = test w.word

-- the words behind the first
abbrev pub behind : List Placed → List Placed
behind [] = []
behind (w ∷ ws) = ws

-- a name whose place is not kept
abbrev pub bare_in : Word → Option (List ℕ)
bare_in (words.Name text) = Some text
bare_in _ = None

abbrev pub bare_at : Reader (List ℕ)
bare_at = word_at (λ w. bare_in w.word)

-- the place of the first word
abbrev pub place_of : List Placed → ℕ
place_of [] = 0
place_of (w ∷ ws) = w.at

-- this mark opens a level, where one is left
abbrev pub open_at : Mark → ℕ → Reader (Unit {0})
open_at m levels ws = if (levels == 0) && first_is (is_mark m) ws then too_deep ws else mark_at m ws
