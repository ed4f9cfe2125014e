-- What the front of bytes was found to be.
use Rattle.std.specs.Prelude.{◌≡◌, ℕ, List, length, Ok, ⊤}
use Rattle.httparse.specs.Grammar.{RequestHead, print_request}
use Rattle.cv_http.specs.Heads.{Begins, pairs_of}
use Rattle.cv_http.specs.Fields.{body_of, closes}
use Rattle.cv_http.specs.declared.fault.HttpFault.{HttpFault}
use Rattle.cv_http.specs.declared.front.Head.{Head}
use Rattle.cv_http.specs.declared.front.Front.{Front}
use Rattle.cv_http.specs.declared.front.Front.TheVariants as F

-- the bytes begin with a head of these parts, whose fields tell this length of the body
pub record IsHeadOf (bytes : List ℕ) (p : Head) : Type 0 where
  pub head : RequestHead
  pub rest : List ℕ
  pub begins : Begins bytes head rest
  pub len : p.len ≡ length (print_request head)
  pub body : body_of (pairs_of head) ≡ Ok p.body
  pub method : p.method.now ≡ head.method
  pub path : p.path.now ≡ head.target
  pub close : p.close ≡ closes head.minor (pairs_of head)

-- P of the head, if there is one
abbrev pub ForHead : Front → (Head → Type 0) → Type 0
ForHead (F.Head p) P = P p
ForHead (F.Fault f) P = ⊤
ForHead F.More P = ⊤

-- P of the fault, if there is one
abbrev pub ForFault : Front → (HttpFault → Type 0) → Type 0
ForFault (F.Head p) P = ⊤
ForFault (F.Fault f) P = P f
ForFault F.More P = ⊤

-- P, if more bytes are needed
abbrev pub ForMore : Front → Type 0 → Type 0
ForMore (F.Head p) P = ⊤
ForMore (F.Fault f) P = ⊤
ForMore F.More P = P
