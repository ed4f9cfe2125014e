use Rattle.std.proofs.Common.{◌≡◌, ℕ, ◌+◌, ◌-◌, take, drop, ap, ◌∙◌, arith}
use Rattle.cv_feed.proofs.Reading.{waits_next}
use Rattle.cv_http.specs.Requests.{SpellsRequest, Due}
use Rattle.cv_http.proofs.FrontLemmas.{sized, waits_body, request_of}
use Rattle.cv_http.proofs.format.RequestsFormat.judge.Goals as goal

pub overflow_add-whole : goal.overflow_add-whole
overflow_add-whole c =
    let size = sized c.args.bytes.now c.in-Head.head c.in-Head.ensures.head in omega (arith, size.head, size.body)

pub returns-then-bytes-whole-clause-need : goal.returns-then-bytes-whole-clause-need
returns-then-bytes-whole-clause-need c =
    let size = sized c.args.bytes.now c.in-Head.head c.in-Head.ensures.head in
    (c.if-bytes-whole.true, omega (arith, size.head, size.body), waits_body c.args.bytes.now c.in-Head.head c.in-Head.ensures.head)

pub returns-in_ok-request-in-Head-clause-message : goal.returns-in_ok-request-in-Head-clause-message
returns-in_ok-request-in-Head-clause-message c =
    let bytes = c.args.bytes.now in
    let head = c.in-Head.head in
    let size = sized bytes head c.in-Head.ensures.head in
    let parts = c.in_ok-request-in-Head.ensures in
    let behind : head.len + head.body - head.len ≡ head.body = omega arith in (
      omega (arith, size.some),
      c.if-bytes-whole.false,
      request_of bytes head c.in-Head.ensures.head c.in_ok-request-in-Head.request c.if-bytes-whole.false parts.method parts.path
          (parts.body ∙ ap (λ (n : ℕ). take n (drop head.len bytes)) behind) parts.close,
    )

pub returns-in-More-clause-need : goal.returns-in-More-clause-need
returns-in-More-clause-need c =
    let more = c.in-More.ensures.more in
    (omega arith, omega (arith, more.1), waits_next SpellsRequest Due c.args.bytes.now more.0)
