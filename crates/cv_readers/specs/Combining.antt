-- Readers made of readers.
use Rattle.std.specs.Prelude.{ℕ, zero, suc, Bool, nat_lt, if◌then◌else◌, List, [], ◌∷◌, ◌++◌, length, Ok, Err}
use Rattle.cv_lex.specs.declared.word.Mark.{Mark}
use Rattle.cv_lex.specs.declared.word.Mark.TheVariants as marks
use Rattle.cv_lex.specs.declared.word.Word.{Word}
use Rattle.cv_lex.specs.declared.word.Placed.{Placed}
use Rattle.cv_readers.specs.Reading.{Read, Reader, ◌>>=◌, is_mark, mark_at, first_is, behind}

-- what was read, in another form
abbrev pub mapped : {X Y : Type 0} → (X → Y) → Read X → Read Y
mapped form (Ok x) = Ok (form x.0, x.1)
mapped form (Err miss) = Err miss

-- items, and those that are read behind them
abbrev pub with_front : {X : Type 0} → List X → Read (List X) → Read (List X)
with_front front read = mapped (λ xs. front ++ xs) read

-- what was read, with a mark behind it
abbrev pub closed : {X : Type 0} → Mark → Read X → Read X
closed close read = read >>= λ x. mapped (λ (u : Unit {0}). x.0) (mark_at close x.1)

-- what is read behind a mark
abbrev pub after : {X : Type 0} → Mark → Reader X → Reader X
after mark R ws = mark_at mark ws >>= λ r. R r.1

-- an item, and what `more` reads behind it as long as words get fewer
abbrev pub one_more : {X : Type 0} → ℕ → (List Placed → Read (List X)) → X × List Placed → Read (List X)
one_more before more x = if nat_lt (length x.1) before then with_front (x.0 ∷ []) (more x.1) else Ok (x.0 ∷ [], x.1)

-- at most n items, as long as the first word passes the test
abbrev pub star : {X : Type 0} → (Word → Bool) → Reader X → ℕ → Reader (List X)
star p R zero ws = Ok ([], ws)
star p R (suc n) ws = if first_is p ws then R ws >>= one_more (length ws) (star p R n) else Ok ([], ws)

-- items, as long as the first word passes the test
unfoldable pub many : {X : Type 0} → (Word → Bool) → Reader X → Reader (List X)
many p R ws = star p R (length ws) ws

-- items with this mark between them
unfoldable pub sep : {X : Type 0} → Mark → Reader X → Reader (List X)
sep mark R ws = R ws >>= λ x. with_front (x.0 ∷ []) (many (is_mark mark) (after mark R) x.1)

-- items with commas between them, or none, and a mark that closes them
unfoldable pub listed : {X : Type 0} → Mark → Reader X → Reader (List X)
listed close R ws = if first_is (is_mark close) ws then Ok ([], behind ws) else closed close (sep marks.Comma R ws)
