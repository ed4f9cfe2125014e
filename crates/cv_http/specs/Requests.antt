-- Which bytes are a request, and which fault stands in a request's place.
use Rattle.std.specs.Prelude.{◌≡◌, ℕ, ◌⊎◌, true, List, ◌++◌, length, Ok, Err, ⊤}
use Rattle.httparse.specs.Grammar.{RequestHead, NeverHasRequest}
use Rattle.cv_http.specs.Windows.{window, is_full}
use Rattle.cv_http.specs.Heads.{Begins, pairs_of, HasNoHead, MayWait}
use Rattle.cv_http.specs.Fields.{body_of, closes}
use Rattle.cv_http.specs.declared.fault.HttpFault.{HttpFault}
use Rattle.cv_http.specs.declared.fault.HttpFault.TheVariants.{BadHead, HeadTooLong, BodyTooLong, Coding, BadLength, OutOfMemory}
use Rattle.cv_http.specs.declared.request.Request.{Request}

-- these bytes are this request, whole: a head, and a body of the length that its fields tell
pub record SpellsRequest (r : Request) (bytes : List ℕ) : Type 0 where
  pub head : RequestHead
  pub begins : Begins bytes head r.body
  pub whole : body_of (pairs_of head) ≡ Ok (length r.body)
  pub method : r.method ≡ head.method
  pub path : r.path ≡ head.target
  pub close : r.close ≡ closes head.minor (pairs_of head)

-- a head stands there whose fields have the fault
abbrev pub HasFault : HttpFault → List ℕ → Type 0
HasFault f bytes = (h : RequestHead) × (rest : List ℕ) × Begins bytes h rest × (body_of (pairs_of h) ≡ Err f)

-- what it means that a fault is told of bytes; want of memory is no fault of bytes
abbrev pub Stands : HttpFault → List ℕ → Type 0
Stands BadHead bytes = NeverHasRequest (window bytes)
Stands HeadTooLong bytes =
    (is_full bytes ≡ true) × HasNoHead bytes × (NeverHasRequest (window bytes) → MayWait bytes)
Stands BodyTooLong bytes = HasFault BodyTooLong bytes
Stands Coding bytes = HasFault Coding bytes
Stands BadLength bytes = HasFault BadLength bytes
Stands OutOfMemory bytes = ⊥

-- where some fault has to be told
abbrev pub Due : HttpFault → List ℕ → Type 0
Due BadHead bytes = NeverHasRequest (window bytes) × ¬ (MayWait bytes)
Due HeadTooLong bytes = (is_full bytes ≡ true) × HasNoHead bytes
Due BodyTooLong bytes = HasFault BodyTooLong bytes
Due Coding bytes = HasFault Coding bytes
Due BadLength bytes = HasFault BadLength bytes
Due OutOfMemory bytes = ⊥

-- where a fault stands no request begins, whatever follows
abbrev pub HasNoRequests : Type 0
HasNoRequests =
    (f : HttpFault) (r : Request) (bytes more front rest : List ℕ) → Stands f bytes → SpellsRequest r front
    → ¬ (bytes ++ more ≡ front ++ rest)

-- a fault of the head itself
abbrev pub IsOfHead : HttpFault → Type 0
IsOfHead BadHead = ⊤
IsOfHead HeadTooLong = ⊤
IsOfHead BodyTooLong = ⊥
IsOfHead Coding = ⊥
IsOfHead BadLength = ⊥
IsOfHead OutOfMemory = ⊥

-- one fault stands at one place, however much of the stream has come, but for the two of the head
abbrev pub HasOneFault : Type 0
HasOneFault =
    (f g : HttpFault) (bytes more : List ℕ) → Stands f bytes → Stands g (bytes ++ more)
    → (f ≡ g) ⊎ (IsOfHead f × IsOfHead g)
