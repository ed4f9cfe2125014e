-- What the front of bytes is, from what the parser answers of its window.
use Rattle.std.proofs.Common.{◌≡◌, ℕ, ◌+◌, ◌<◌, ◌≤◌, Bool, true, false, cond, List, [], ◌++◌, length, take, drop, sym, ap, ◌∙◌, subst, arith, append-nil, length-append}
use Rattle.std.specs.Prelude.{Ok, Err, Result}
use Rattle.std.proofs.Common.{inl, inr}
use Rattle.std.proofs.lemmas.List.{drop_at, length-take}
use Rattle.std.proofs.Math.Seq.{take-append-add}
use Rattle.httparse.specs.Grammar.{RequestHead, print_request, ReadsRequest, HasNoRequest, NeverHasRequest, MayBecomeRequest}
use Rattle.httparse.specs.Spans.{RequestOverflows, IsRequestAt}
use Rattle.httparse.specs.declared.spans.HeaderSpan.{HeaderSpan}
use Rattle.httparse.specs.declared.spans.RequestSpans.{RequestSpans}
use Rattle.std.proofs.lemmas.List.{length-map}
use Rattle.cv_feed.specs.Streams.{HasNone, IsSilent, Waits}
use Rattle.cv_http.specs.Windows.{window, is_full}
use Rattle.cv_http.specs.Heads.{Begins, pairs_of, HasNoHead, MayWait}
use Rattle.cv_http.specs.Fields.{body_of}
use Rattle.cv_http.specs.Fronts.{IsHeadOf, ForMore}
use Rattle.cv_http.specs.declared.front.Front.{Front}
use Rattle.cv_http.specs.declared.front.Front.TheVariants as F
use Rattle.cv_http.specs.Requests.{SpellsRequest, HasFault, Stands, Due}
use Rattle.cv_http.specs.declared.front.Head.{Head}
use Rattle.cv_http.specs.declared.fault.HttpFault.{HttpFault}
use Rattle.cv_http.specs.declared.fault.HttpFault.TheVariants.{BadHead, HeadTooLong, BodyTooLong, Coding, BadLength, OutOfMemory}
use Rattle.cv_http.specs.declared.request.Request.{Request}
use Rattle.cv_http.specs.declared.window.TheConstants.{MOST_HEAD, MOST_FIELDS}
use Rattle.cv_http.specs.declared.length.TheConstants.{MOST_BODY}
use Rattle.cv_http.specs.WindowLaws.{window_short}
use Rattle.cv_http.specs.HeadLaws.{head_in_window, head_from_window, begins_unique, begins_more, head_some, head_most}
use Rattle.cv_http.specs.RequestLaws.{spells_begins}
use Rattle.cv_http.proofs.FieldLemmas.{body_fault, body_most}

-- a window with no head that is not full, where a fault of the head may wait
pub silent_open : (bytes : List ℕ) → is_full bytes ≡ false → HasNoHead bytes → (NeverHasRequest (window bytes) → MayWait bytes)
    → IsSilent SpellsRequest Due bytes
silent_open bytes room none wait = (
  λ m front rest s e. no_head s.head (m.body ++ rest) (spells_begins m front bytes rest s e),
  not_due,
)
  where
    no_head : (h : RequestHead) (rest : List ℕ) → ¬ (Begins bytes h rest)
    no_head h rest b = let reads = head_in_window bytes h rest b in none h reads.0 reads.1 b.0.few

    not_due : (f : HttpFault) → ¬ (Due f bytes)
    not_due BadHead due = due.1 (wait due.0)
    not_due HeadTooLong due = let both : true ≡ false = sym due.0 ∙ room in cc
    not_due BodyTooLong due = no_head due.0 due.1 due.2
    not_due Coding due = no_head due.0 due.1 due.2
    not_due BadLength due = no_head due.0 due.1 due.2
    not_due OutOfMemory due = due

-- a head whose body has not come whole
pub waits_body : (bytes : List ℕ) (p : Head) → IsHeadOf bytes p → Waits SpellsRequest Due (p.len + p.body) bytes
waits_body bytes p is more short = (no_request, not_due)
  where
    begins : Begins (bytes ++ more) is.head (is.rest ++ more)
    begins = begins_more bytes more is.head is.rest is.begins

    no_request : HasNone SpellsRequest (bytes ++ more)
    no_request m front rest s e =
        let same = begins_unique (bytes ++ more) is.head s.head (is.rest ++ more) (m.body ++ rest) begins
        (spells_begins m front (bytes ++ more) rest s e) in
        let lengths : ◌≡◌ {A = Result ℕ HttpFault} (Ok p.body) (Ok (length m.body)) =
        sym is.body ∙ ap (λ h. body_of (pairs_of h)) same.0 ∙ s.whole in
        let long : p.body ≡ length m.body = cc in
        omega (arith, long, is.len, ap length begins.1, length-append (print_request is.head) (is.rest ++ more), ap length same.1, length-append m.body rest)

    window_has : (tail : List ℕ) × ReadsRequest (window (bytes ++ more)) is.head tail
    window_has = head_in_window (bytes ++ more) is.head (is.rest ++ more) begins

    one_fault : (f : HttpFault) → ¬ (HasFault f (bytes ++ more))
    one_fault f due =
        let same = begins_unique (bytes ++ more) due.0 is.head due.1 (is.rest ++ more) due.2 begins in
        let both : ◌≡◌ {A = Result ℕ HttpFault} (Err f) (Ok p.body) = sym due.3 ∙ ap (λ k. body_of (pairs_of k)) same.0 ∙ is.body in
        cc

    not_due : (f : HttpFault) → ¬ (Due f (bytes ++ more))
    not_due BadHead due =
        due.0 [] is.head window_has.0
        (subst (λ (w : List ℕ). ReadsRequest w is.head window_has.0) (sym (append-nil (window (bytes ++ more)))) window_has.1)
    not_due HeadTooLong due = due.1 is.head window_has.0 window_has.1 is.begins.0.few
    not_due BodyTooLong due = one_fault BodyTooLong due
    not_due Coding due = one_fault Coding due
    not_due BadLength due = one_fault BadLength due
    not_due OutOfMemory due = due

-- a head with its body behind it
pub request_of : (bytes : List ℕ) (p : Head) → IsHeadOf bytes p → (r : Request) → p.len + p.body ≤ length bytes
    → r.method ≡ p.method.now → r.path ≡ p.path.now → r.body ≡ take p.body (drop p.len bytes) → r.close ≡ p.close
    → SpellsRequest r (take (p.len + p.body) bytes)
request_of bytes p is r fits method path body close =
    let text = print_request is.head in
    let behind : drop p.len bytes ≡ is.rest = ap (drop p.len) is.begins.1 ∙ drop_at text is.rest p.len (sym is.len) in
    let total = ap length is.begins.1 ∙ length-append text is.rest in
    let room : p.body ≤ length is.rest = omega (arith, total, is.len) in
    let body_is : r.body ≡ take p.body is.rest = body ∙ ap (take p.body) behind in
    let long : length r.body ≡ p.body = omega (arith, ap length body_is, length-take p.body is.rest) in
    let whole_text : take (p.len + p.body) bytes ≡ text ++ take p.body is.rest =
    ap (take (p.len + p.body)) is.begins.1 ∙ ap (λ n. take (n + p.body) (text ++ is.rest)) is.len ∙ take-append-add text is.rest p.body in
    record {
      head = is.head;
      begins = (is.begins.0, whole_text ∙ ap (λ (b : List ℕ). text ++ b) (sym body_is));
      whole = is.body ∙ ap Ok (sym long);
      method = method ∙ is.method;
      path = path ∙ is.path;
      close = close ∙ is.close;
    }

-- the parser's head is one of the bytes
pub begins_at : (bytes seen : List ℕ) (headers : List HeaderSpan) (r : RequestSpans) (h : RequestHead)
    → seen ≡ window bytes → IsRequestAt seen headers r h → length headers ≡ MOST_FIELDS
    → (rest : List ℕ) × Begins bytes h rest
begins_at bytes seen headers r h is at room =
    let few : length h.fields ≤ MOST_FIELDS =
    omega (arith, room, simp length-map at (ap length at.fields), length-take r.headers headers) in
    head_from_window bytes h (drop r.len seen) (subst (λ (w : List ℕ). ReadsRequest w h (drop r.len seen)) is at.reads) few

-- nothing came whole, and more may come
pub none_partial : (bytes : List ℕ) → HasNoRequest (window bytes) → HasNoHead bytes
none_partial bytes none h rest reads few = none h rest reads

pub wait_partial : (bytes : List ℕ) → MayBecomeRequest (window bytes) → NeverHasRequest (window bytes) → MayWait bytes
wait_partial bytes may never = elim may [ inl m ↦ absurd (never m.0 m.1 [] m.2) | inr target ↦ inl target ]

-- the fields that came are too many
pub none_many : (bytes : List ℕ) → RequestOverflows MOST_FIELDS (window bytes) → HasNoHead bytes
none_many bytes over h rest reads few =
    let many : MOST_FIELDS < length h.fields =
    over [] h rest (subst (λ (w : List ℕ). ReadsRequest w h rest) (sym (append-nil (window bytes))) reads) in
    omega arith

-- the fields of a head have no other faults than those of fields
pub fault_stands : (f : HttpFault) (bytes : List ℕ) (h : RequestHead) (rest : List ℕ) → Begins bytes h rest
    → body_of (pairs_of h) ≡ Err f → Stands f bytes
fault_stands BadHead bytes h rest b e = absurd (body_fault (pairs_of h) BadHead e)
fault_stands HeadTooLong bytes h rest b e = absurd (body_fault (pairs_of h) HeadTooLong e)
fault_stands BodyTooLong bytes h rest b e = (h, rest, b, e)
fault_stands Coding bytes h rest b e = (h, rest, b, e)
fault_stands BadLength bytes h rest b e = (h, rest, b, e)
fault_stands OutOfMemory bytes h rest b e = absurd (body_fault (pairs_of h) OutOfMemory e)

-- where the window has no head and is not full, more is waited for
pub more_open : (bytes : List ℕ) (full : Bool) (r : Front) → full ≡ is_full bytes → r ≡ cond full (F.Fault HeadTooLong) F.More
    → HasNoHead bytes → (NeverHasRequest (window bytes) → MayWait bytes)
    → ForMore r (IsSilent SpellsRequest Due bytes × (length bytes < MOST_HEAD))
more_open bytes true r is e none wait =
    subst (λ q. ForMore q (IsSilent SpellsRequest Due bytes × (length bytes < MOST_HEAD))) (sym e) tt
more_open bytes false r is e none wait =
    subst (λ q. ForMore q (IsSilent SpellsRequest Due bytes × (length bytes < MOST_HEAD))) (sym e)
    (silent_open bytes (sym is) none wait, window_short bytes (sym is))

-- how long the parts of a request are
pub record IsSized (p : Head) : Type 0 where
  pub some : 0 < p.len
  pub head : p.len ≤ MOST_HEAD
  pub body : p.body ≤ MOST_BODY

pub sized : (bytes : List ℕ) (p : Head) → IsHeadOf bytes p → IsSized p
sized bytes p is = record {
  some = omega (arith, is.len, head_some is.head is.begins.0);
  head = omega (arith, is.len, head_most is.head is.begins.0);
  body = body_most (pairs_of is.head) p.body is.body;
}
