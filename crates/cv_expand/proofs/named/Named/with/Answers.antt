use Rattle.std.proofs.Common.{sym, arith}
use Rattle.cv_token.specs.declared.pairs.Pair.{Pair}
use Rattle.cv_expand.proofs.Lookups.{place_from-push}
use Rattle.cv_expand.proofs.named.Named.with.Goals as goal

pub invariant_of-result : goal.invariant_of-result
invariant_of-result g c = λ n.
    let p : Pair _ = record { key = c.args.key; value = c.args.value } in
    rw (c.in_ok-push.ensures.ok, c.in_ok-places.ensures n, c.self.invariant n, c.as_str.ensures)
    (sym (place_from-push 0 c.len.result c.self.inside.pairs p n (omega arith)))
