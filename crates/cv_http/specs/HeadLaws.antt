-- A head stands in its window just where it stands at the front of the bytes, and there is one.
use Rattle.std.proofs.Common.{◌≡◌, ℕ, ◌<◌, ◌≤◌, List, [], ◌++◌, length, sym, ap, ◌∙◌, subst, arith, append_assoc, length-append}
use Rattle.httparse.specs.Grammar.{RequestHead, print_request, ReadsRequest}
use Rattle.httparse.proofs.GrammarLemmas.{request_unique, print_request-append}
use Rattle.cv_http.specs.Windows.{window}
use Rattle.cv_http.specs.Heads.{IsHead, Begins}
use Rattle.cv_http.specs.declared.window.TheConstants.{MOST_HEAD, MOST_FIELDS}
use Rattle.cv_http.specs.WindowLaws.{window_more, window_front, window_whole, window_most}

pub head_in_window : (bytes : List ℕ) (h : RequestHead) (rest : List ℕ) → Begins bytes h rest
    → (tail : List ℕ) × ReadsRequest (window bytes) h tail
head_in_window bytes h rest b =
    let more = window_more (print_request h) rest in (
      more.0,
      (
        b.0.grammar,
        subst (λ (text : List ℕ). window text ≡ print_request h ++ more.0) (sym b.1)
            (more.1 ∙ ap (λ (w : List ℕ). w ++ more.0) b.0.fits),
      ),
    )

pub head_from_window : (bytes : List ℕ) (h : RequestHead) (rest : List ℕ) → ReadsRequest (window bytes) h rest
    → length h.fields ≤ MOST_FIELDS → (after : List ℕ) × Begins bytes h after
head_from_window bytes h rest reads few =
    let front = window_front bytes in (
      rest ++ front.0,
      (
        record { grammar = reads.0; fits = window_whole (print_request h) bytes rest reads.1; few = few },
        front.1 ∙ ap (λ (w : List ℕ). w ++ front.0) reads.1 ∙ append_assoc (print_request h) rest front.0,
      ),
    )

pub begins_unique : (bytes : List ℕ) (h k : RequestHead) (r q : List ℕ) → Begins bytes h r → Begins bytes k q
    → (h ≡ k) × (r ≡ q)
begins_unique bytes h k r q b c = request_unique bytes h k r q (b.0.grammar, b.1) (c.0.grammar, c.1)

pub begins_more : (bytes more : List ℕ) (h : RequestHead) (rest : List ℕ) → Begins bytes h rest
    → Begins (bytes ++ more) h (rest ++ more)
begins_more bytes more h rest b =
    (b.0, ap (λ (t : List ℕ). t ++ more) b.1 ∙ append_assoc (print_request h) rest more)

pub head_some : (h : RequestHead) → IsHead h → 0 < length (print_request h)
head_some h is =
    let printed = ap length (print_request-append h []) in
    let some = is.grammar.method.0 in
    let lengths = simp length-append at printed in
    omega (arith, lengths, some)

pub head_most : (h : RequestHead) → IsHead h → length (print_request h) ≤ MOST_HEAD
head_most h is = omega (arith, window_most (print_request h), ap length is.fits)
