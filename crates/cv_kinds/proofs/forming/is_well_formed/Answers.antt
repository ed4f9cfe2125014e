use Rattle.std.proofs.Common.{◌↔◌, Bool, IsTrue, arith, refl}
use Rattle.std.proofs.lemmas.Result.{IfOk-weaker}
use Rattle.std.specs.List.{IsDistinct}
use Rattle.std.specs.Str.{bytes_eq}
use Rattle.cv_kinds.specs.WellFormed.{IsWellFormed, path_list}
use Rattle.cv_kinds.proofs.Wires.{wired_of}
use Rattle.cv_kinds.proofs.forming.is_well_formed.Goals as goal

pub returns : goal.returns
returns c =
    let actors = c.args.actors.now in
    let connections = c.args.connections.now in
    let specs = c.if-not-are_specs.ensures.0 refl in
    let rising = c.if-not-rise.ensures.0 refl in
    let wired = wired_of actors connections (c.if-not-have_ports.ensures.0 refl) rising in
    IfOk-weaker c.are_distinct.result (λ (b : Bool). IsTrue b ↔ IsDistinct bytes_eq (path_list actors)) (λ (b : Bool). IsTrue b ↔ IsWellFormed (record { actors = actors; connections = connections }))
    (λ b h. (
      λ t. record {
        small = record { few_actors = omega (arith, c.if-actors-gt-MOST_ACTORS.false); few_connections = omega (arith, c.if-connections-gt-MOST_CONNECTIONS.false) };
        specs = specs;
        distinct = h.0 t;
        wired = wired;
        rising = rising;
      },
      λ w. h.1 w.distinct,
    ))
    c.are_distinct.ensures
