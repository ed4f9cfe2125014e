use Rattle.std.proofs.Common.{◌≡◌, map, take, length, option_map, option_to_list, IfSome, codes}
use Rattle.httparse.specs.Spans.{IsWithin, header_bytes, span_bytes}
use Rattle.http1.specs.Fields.{values_named}
use Rattle.cv_http.proofs.fields.length_value.Given as goal

abbrev pub invariant-loop-field : goal.invariant-loop-field
invariant-loop-field l =
    (values_named (codes "content-length") (map (header_bytes l.window) (take l.field-index l.fields))
    ≡ option_to_list (option_map (span_bytes l.window) l.value))
    × IfSome l.value (IsWithin (length l.window))
