-- Heads within their window. The grammar is that of RFC 9112 as `httparse` states it, with empty lines before the head.
use Rattle.std.specs.Prelude.{◌≡◌, ℕ, ◌≤◌, ◌⊎◌, List, ◌++◌, length, map}
use Rattle.httparse.specs.Grammar.{RequestHead, print_request, IsRequestHead, ReadsRequest, EndsInTarget}
use Rattle.httparse.specs.Spans.{name_and_value, RequestExceeds}
use Rattle.http1.specs.Fields.{Header}
use Rattle.cv_http.specs.Windows.{window}
use Rattle.cv_http.specs.declared.window.TheConstants.{MOST_FIELDS}

-- a head of the grammar that lies whole in its window and has at most 64 fields
pub record IsHead (h : RequestHead) : Type 0 where
  pub grammar : IsRequestHead h
  pub fits : window (print_request h) ≡ print_request h
  pub few : length h.fields ≤ MOST_FIELDS

-- the bytes are that head, and then the rest
abbrev pub Begins : List ℕ → RequestHead → List ℕ → Type 0
Begins bytes h rest = IsHead h × (bytes ≡ print_request h ++ rest)

-- the names and the trimmed values of the fields
abbrev pub pairs_of : RequestHead → List Header
pairs_of h = map name_and_value h.fields

-- the window holds no whole head of at most 64 fields
abbrev pub HasNoHead : List ℕ → Type 0
HasNoHead bytes = (h : RequestHead) (rest : List ℕ) → ReadsRequest (window bytes) h rest → ¬ (length h.fields ≤ MOST_FIELDS)

-- the two cases in which a fault of the head may wait: the window ends inside the target, or the fields that came
-- in it are too many
abbrev pub MayWait : List ℕ → Type 0
MayWait bytes = EndsInTarget (window bytes) ⊎ RequestExceeds MOST_FIELDS (window bytes)
