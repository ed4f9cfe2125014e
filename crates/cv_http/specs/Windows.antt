-- The window of a head: how much of a request is looked at for its head.
use Rattle.std.specs.Prelude.{◌≡◌, ℕ, zero, suc, ◌<◌, ◌≤◌, Bool, ◌||◌, List, [], ◌∷◌, ◌++◌, length, if◌then◌else◌, ◌==◌, count_by}
use Rattle.cv_http.specs.declared.window.TheConstants.{MOST_HEAD, MOST_LINES}

-- the first room bytes, and of these only the bytes up to so many line feeds
unfoldable pub window_at : ℕ → ℕ → List ℕ → List ℕ
window_at zero lines bytes = []
window_at (suc room) zero bytes = []
window_at (suc room) (suc lines) [] = []
window_at (suc room) (suc lines) (b ∷ bytes) = b ∷ window_at room (if b == 10 then lines else suc lines) bytes

-- the first 16,384 bytes, and of these only the bytes up to the 66th line feed
abbrev pub window : List ℕ → List ℕ
window bytes = window_at MOST_HEAD MOST_LINES bytes

-- how many line feeds the bytes have
abbrev pub line_feeds : List ℕ → ℕ
line_feeds bytes = count_by (λ b. b == 10) bytes

-- nothing that follows the bytes comes into their window
abbrev pub is_full : List ℕ → Bool
is_full bytes = (length (window bytes) == MOST_HEAD) || (line_feeds (window bytes) == MOST_LINES)

-- the longest front of the bytes that has at most 16,384 of them and nothing behind a 66th line feed
pub record IsWindow (w bytes : List ℕ) : Type 0 where
  pub front : (rest : List ℕ) × (bytes ≡ w ++ rest)
  pub short : length w ≤ MOST_HEAD
  pub few : (before rest : List ℕ) (b : ℕ) → w ≡ before ++ b ∷ rest → line_feeds before < MOST_LINES
  pub longest : length w < MOST_HEAD → line_feeds w < MOST_LINES → w ≡ bytes
