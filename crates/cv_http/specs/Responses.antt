-- The bytes of a response (RFC 9112, section 4, and RFC 9110, section 8.6), with the phrase that `http` gives to a status.
use Rattle.std.specs.Prelude.{ℕ, Bool, List, [], ◌∷◌, ◌++◌, length, ◌==◌, decimal, codes, unwrap_or}
use Rattle.std.specs.List.{list_any}
use Rattle.http.specs.StatusCode.{reason_phrase}

-- the statuses that the control API answers
abbrev pub is_answered : ℕ → Bool
is_answered status = list_any (λ s. s == status) (200 ∷ 400 ∷ 404 ∷ 405 ∷ 409 ∷ 413 ∷ 503 ∷ [])

abbrev pub phrase : ℕ → List ℕ
phrase status = unwrap_or (reason_phrase status) []

-- the end of a line
abbrev pub line_end : List ℕ
line_end = 13 ∷ 10 ∷ []

-- the status line, the kind of the content, its length and an empty line
unfoldable pub response_head : ℕ → List ℕ → ℕ → List ℕ
response_head status phrase len =
    codes "HTTP/1.1 " ++ decimal status ++ codes " " ++ phrase ++ line_end
    ++ codes "Content-Type: application/json" ++ line_end
    ++ codes "Content-Length: " ++ decimal len ++ line_end
    ++ line_end

-- those lines, and the content
abbrev pub response : ℕ → List ℕ → List ℕ
response status body = response_head status (phrase status) (length body) ++ body
