-- What a feed of requests holds.
use Rattle.std.specs.Prelude.{ℕ, List, Option}
use Rattle.cv_http.specs.declared.fault.HttpFault.{HttpFault}
use Rattle.cv_http.specs.declared.request.Request.{Request}

-- the requests that were read and not taken, what has come of the next one, and the fault that stands there
pub record State : Type 0 where
  pub waiting : List Request
  pub rest : List ℕ
  pub fault : Option HttpFault
