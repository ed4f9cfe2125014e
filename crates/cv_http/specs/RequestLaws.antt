-- A request is told by its first bytes, and none begins where a fault stands, whatever follows.
use Rattle.std.proofs.Common.{◌≡◌, ℕ, ◌<◌, true, List, [], ◌++◌, length, take, drop, refl, sym, ap, ◌∙◌, subst, arith, append_assoc, length-append, inl, inr}
use Rattle.std.specs.Prelude.{◌⊎◌, Ok, Err, Result}
use Rattle.std.proofs.lemmas.List.{take_at, drop_at}
use Rattle.httparse.specs.Grammar.{RequestHead, print_request, ReadsRequest, NeverHasRequest}
use Rattle.cv_http.specs.Windows.{window, is_full}
use Rattle.cv_http.specs.Heads.{Begins, pairs_of, HasNoHead}
use Rattle.cv_http.specs.Fields.{body_of, closes}
use Rattle.cv_http.specs.Requests.{IsOfHead, HasOneFault, SpellsRequest, HasFault, Stands}
use Rattle.cv_http.specs.declared.fault.HttpFault.{HttpFault}
use Rattle.cv_http.specs.declared.fault.HttpFault.TheVariants.{BadHead, HeadTooLong, BodyTooLong, Coding, BadLength, OutOfMemory}
use Rattle.cv_http.specs.declared.request.Request.{Request}
use Rattle.cv_http.specs.WindowLaws.{window_more, window_full}
use Rattle.cv_http.specs.HeadLaws.{head_in_window, begins_unique, begins_more, head_some}

-- the head of a request that begins the bytes
pub spells_begins : (r : Request) (front bytes rest : List ℕ) (s : SpellsRequest r front) → bytes ≡ front ++ rest
    → Begins bytes s.head (r.body ++ rest)
spells_begins r front bytes rest s e = (
  s.begins.0,
  e ∙ ap (λ (t : List ℕ). t ++ rest) s.begins.1 ∙ append_assoc (print_request s.head) r.body rest,
)

pub one : (m n : Request) (a b x y : List ℕ) → SpellsRequest m a → SpellsRequest n b → a ++ x ≡ b ++ y → (m ≡ n) × (x ≡ y)
one m n a b x y s t e =
    let same = begins_unique (a ++ x) s.head t.head (m.body ++ x) (n.body ++ y)
    (spells_begins m a (a ++ x) x s refl) (spells_begins n b (a ++ x) y t e) in
    let lengths : ◌≡◌ {A = Result ℕ HttpFault} (Ok (length m.body)) (Ok (length n.body)) =
    sym s.whole ∙ ap (λ h. body_of (pairs_of h)) same.0 ∙ t.whole in
    let long : length n.body ≡ length m.body = cc in
    let bodies : m.body ≡ n.body =
    sym (take_at m.body x (length m.body) refl) ∙ ap (take (length m.body)) same.1 ∙ take_at n.body y (length m.body) long in
    let rests : x ≡ y =
    sym (drop_at m.body x (length m.body) refl) ∙ ap (drop (length m.body)) same.1 ∙ drop_at n.body y (length m.body) long in
    let methods : m.method ≡ n.method = s.method ∙ ap (λ h. h.method) same.0 ∙ sym t.method in
    let paths : m.path ≡ n.path = s.path ∙ ap (λ h. h.target) same.0 ∙ sym t.path in
    let closed : m.close ≡ n.close = s.close ∙ ap (λ h. closes h.minor (pairs_of h)) same.0 ∙ sym t.close in
    (λ i. record { method = methods i; path = paths i; body = bodies i; close = closed i }, rests)

pub some : (m : Request) (bytes : List ℕ) → SpellsRequest m bytes → 0 < length bytes
some m bytes s =
    let printed = ap length s.begins.1 ∙ length-append (print_request s.head) m.body in
    omega (arith, printed, head_some s.head s.begins.0)

-- one head has one body or one fault
fault_or_body : (f : HttpFault) (n : ℕ) (bytes more : List ℕ) (h : RequestHead) (rest : List ℕ)
    → HasFault f bytes → Begins (bytes ++ more) h rest → ¬ (body_of (pairs_of h) ≡ Ok n)
fault_or_body f n bytes more h rest fault b whole =
    let same = begins_unique (bytes ++ more) fault.0 h (fault.1 ++ more) rest (begins_more bytes more fault.0 fault.1 fault.2) b in
    let both : ◌≡◌ {A = Result ℕ HttpFault} (Err f) (Ok n) = sym fault.3 ∙ ap (λ k. body_of (pairs_of k)) same.0 ∙ whole in
    cc

-- no head comes where none can
never_head : (bytes more : List ℕ) (h : RequestHead) (rest : List ℕ) → NeverHasRequest (window bytes)
    → ¬ (Begins (bytes ++ more) h rest)
never_head bytes more h rest never b =
    let reads = head_in_window (bytes ++ more) h rest b in
    let tail = window_more bytes more in
    never tail.0 h reads.0 (subst (λ (w : List ℕ). ReadsRequest w h reads.0) tail.1 reads.1)

-- nor where the window has none and is full
full_head : (bytes more : List ℕ) (h : RequestHead) (rest : List ℕ) → is_full bytes ≡ true → HasNoHead bytes
    → ¬ (Begins (bytes ++ more) h rest)
full_head bytes more h rest full none b =
    let reads = head_in_window (bytes ++ more) h rest b in
    none h reads.0 (subst (λ (w : List ℕ). ReadsRequest w h reads.0) (window_full bytes more full) reads.1) b.0.few

pub stuck : (f : HttpFault) (m : Request) (bytes more front rest : List ℕ) → Stands f bytes → SpellsRequest m front
    → ¬ (bytes ++ more ≡ front ++ rest)
stuck BadHead m bytes more front rest stands s e =
    never_head bytes more s.head (m.body ++ rest) stands (spells_begins m front (bytes ++ more) rest s e)
stuck HeadTooLong m bytes more front rest stands s e =
    full_head bytes more s.head (m.body ++ rest) stands.0 stands.1 (spells_begins m front (bytes ++ more) rest s e)
stuck BodyTooLong m bytes more front rest stands s e =
    fault_or_body BodyTooLong (length m.body) bytes more s.head (m.body ++ rest) stands
    (spells_begins m front (bytes ++ more) rest s e) s.whole
stuck Coding m bytes more front rest stands s e =
    fault_or_body Coding (length m.body) bytes more s.head (m.body ++ rest) stands
    (spells_begins m front (bytes ++ more) rest s e) s.whole
stuck BadLength m bytes more front rest stands s e =
    fault_or_body BadLength (length m.body) bytes more s.head (m.body ++ rest) stands
    (spells_begins m front (bytes ++ more) rest s e) s.whole
stuck OutOfMemory m bytes more front rest stands s e = absurd stands

-- ---- one fault

-- the fields of a head have one fault
field_faults : (f g : HttpFault) (bytes more : List ℕ) → HasFault f bytes → HasFault g (bytes ++ more) → f ≡ g
field_faults f g bytes more x y =
    let same = begins_unique (bytes ++ more) x.0 y.0 (x.1 ++ more) y.1 (begins_more bytes more x.0 x.1 x.2) y.2 in
    let both : ◌≡◌ {A = Result ℕ HttpFault} (Err f) (Err g) = sym x.3 ∙ ap (λ h. body_of (pairs_of h)) same.0 ∙ y.3 in
    cc

-- a head stands where its fields have a fault, and none where a fault of the head does
head_of_fields : (f : HttpFault) (bytes : List ℕ) → HasFault f bytes → (g : HttpFault) → IsOfHead g → ¬ (Stands g bytes)
head_of_fields f bytes x BadHead of stands = never_head bytes [] x.0 (x.1 ++ []) stands (begins_more bytes [] x.0 x.1 x.2)
head_of_fields f bytes x HeadTooLong of stands =
    full_head bytes [] x.0 (x.1 ++ []) stands.0 stands.1 (begins_more bytes [] x.0 x.1 x.2)
head_of_fields f bytes x BodyTooLong of stands = of
head_of_fields f bytes x Coding of stands = of
head_of_fields f bytes x BadLength of stands = of
head_of_fields f bytes x OutOfMemory of stands = of

fields_behind : (f : HttpFault) (bytes more : List ℕ) → HasFault f bytes → HasFault f (bytes ++ more)
fields_behind f bytes more x = (x.0, x.1 ++ more, begins_more bytes more x.0 x.1 x.2, x.3)

-- a fault is one of the head or one of the fields
sort_of : (f : HttpFault) (bytes : List ℕ) → Stands f bytes → IsOfHead f ⊎ HasFault f bytes
sort_of BadHead bytes stands = inl tt
sort_of HeadTooLong bytes stands = inl tt
sort_of BodyTooLong bytes stands = inr stands
sort_of Coding bytes stands = inr stands
sort_of BadLength bytes stands = inr stands
sort_of OutOfMemory bytes stands = absurd stands

-- where no head can come, none does
head_stays : (f : HttpFault) (bytes more : List ℕ) → IsOfHead f → Stands f bytes → (g : HttpFault) → ¬ (HasFault g (bytes ++ more))
head_stays BadHead bytes more of stands g y = never_head bytes more y.0 y.1 stands y.2
head_stays HeadTooLong bytes more of stands g y = full_head bytes more y.0 y.1 stands.0 stands.1 y.2
head_stays BodyTooLong bytes more of stands g y = of
head_stays Coding bytes more of stands g y = of
head_stays BadLength bytes more of stands g y = of
head_stays OutOfMemory bytes more of stands g y = of

pub one_fault : HasOneFault
one_fault f g bytes more x y = elim (sort_of f bytes x) [
  | inl head ↦ elim (sort_of g (bytes ++ more) y) [
    | inl other ↦ inr (head, other)
    | inr fields ↦ absurd (head_stays f bytes more head x g fields)
  ]
  | inr fields ↦ elim (sort_of g (bytes ++ more) y) [
    | inl head ↦ absurd (head_of_fields f (bytes ++ more) (fields_behind f bytes more fields) g head y)
    | inr others ↦ inl (field_faults f g bytes more fields others)
  ]
]
