use Rattle.std.proofs.Common.{◌≡◌, false, map, take}
use Rattle.std.specs.List.{list_any}
use Rattle.httparse.specs.Spans.{header_bytes}
use Rattle.cv_http.specs.Fields.{is_coding}
use Rattle.cv_http.proofs.fields.has_coding.Given as goal

abbrev pub invariant-loop-field : goal.invariant-loop-field
invariant-loop-field l = list_any is_coding (map (header_bytes l.window) (take l.field-index l.fields)) ≡ false
