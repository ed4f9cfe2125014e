use Rattle.std.proofs.Common.{sym, ap, ◌∙◌, subst, inr, Err}
use Rattle.httparse.specs.Spans.{RequestOverflows, RequestExceeds}
use Rattle.cv_http.specs.declared.window.TheConstants.{MOST_FIELDS}
use Rattle.httparse.specs.Grammar.{HasNoRequest, MayBecomeRequest}
use Rattle.cv_http.specs.Fields.{body_of, closes}
use Rattle.cv_http.proofs.FrontLemmas.{begins_at, none_partial, wait_partial, none_many, more_open, fault_stands}
use Rattle.cv_http.proofs.front.front_of.Goals as goal

pub returns-in-Ok-clause-head : goal.returns-in-Ok-clause-head
returns-in-Ok-clause-head c =
    let parsed = rw c.in-Ok-Complete.field-0-is at c.in-Ok-Complete.ensures.complete in
    let h = parsed.0 in
    let at = parsed.1 in
    let begins = begins_at c.args.bytes.now _ c.parse_request.new.headers c.in-Ok-Complete.head h c.window_of-window.ensures.window at c.parse_request.auto.headers in
    record {
      head = h;
      rest = begins.0;
      begins = begins.1;
      len = at.len;
      body = ap body_of (sym at.fields) ∙ sym c.body_length.ensures ∙ c.in-Ok.is;
      method = c.of.ensures ∙ at.method;
      path = c.of-in-Ok.ensures ∙ at.path;
      close = c.closes.ensures ∙ (λ i. closes (at.version i) (at.fields i));
    }

pub returns-in-Err-body_length-clause-fault : goal.returns-in-Err-body_length-clause-fault
returns-in-Err-body_length-clause-fault c =
    let parsed = rw c.in-Ok-Complete.field-0-is at c.in-Ok-Complete.ensures.complete in
    let begins = begins_at c.args.bytes.now _ c.parse_request.new.headers c.in-Ok-Complete.head parsed.0 c.window_of-window.ensures.window parsed.1 c.parse_request.auto.headers in
    fault_stands c.in-Err-body_length.fault c.args.bytes.now parsed.0 begins.0 begins.1
    (ap body_of (sym parsed.1.fields) ∙ sym c.body_length.ensures ∙ c.in-Err-body_length.is)

pub returns-in-Ok-Partial-clause-more : goal.returns-in-Ok-Partial-clause-more
returns-in-Ok-Partial-clause-more c =
    let bytes = c.args.bytes.now in
    let none = rw c.in-Ok-Partial.field-0-is at c.in-Ok-Partial.ensures.partial in
    let may = rw c.in-Ok-Partial.field-0-is at c.in-Ok-Partial.ensures.unfinished in
    more_open bytes c.window_of-window.result.full c.no_head.result c.window_of-window.ensures.full c.no_head.ensures
    (none_partial bytes (subst HasNoRequest c.window_of-window.ensures.window none))
    (wait_partial bytes (subst MayBecomeRequest c.window_of-window.ensures.window may))

pub returns-in-Err-TooManyHeaders-clause-more : goal.returns-in-Err-TooManyHeaders-clause-more
returns-in-Err-TooManyHeaders-clause-more c =
    let bytes = c.args.bytes.now in
    let over = subst (RequestOverflows MOST_FIELDS) c.window_of-window.ensures.window c.in-Err-TooManyHeaders.ensures.no_room in
    let many = subst (RequestExceeds MOST_FIELDS) c.window_of-window.ensures.window
    (c.in-Err-TooManyHeaders.ensures.too_many (ap Err c.in-Err-TooManyHeaders.field-0-is)) in
    more_open bytes c.window_of-window.result.full c.no_head-in-Err-TooManyHeaders.result c.window_of-window.ensures.full
    c.no_head-in-Err-TooManyHeaders.ensures (none_many bytes over) (λ never. inr many)
