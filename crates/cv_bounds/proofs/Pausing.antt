-- The pauses of all kinds are durations, and at the start each actor waits as long as its pause.
use Rattle.std.proofs.Common.{◌≡◌, pos, negsuc, ℕ, suc, ◌<◌, Bool, true, false, ◌==◌, cond, List, [], ◌∷◌, Some, refl, sym, subst, ◌∙◌, arith}
use Rattle.std.specs.Prelude.{int_lt, not}
use Rattle.std.specs.List.{All}
use Rattle.std.specs.FinMap as map
use Rattle.std.proofs.lemmas.Bool.{and_parts}
use Rattle.std.proofs.lemmas.Bool.Decides.{nat_tests}
use Rattle.std.proofs.lemmas.List.Elements.{All-head, All-tail}
use Rattle.std.proofs.lemmas.Option.{same_Some, none-some as none_some}
use Rattle.cv_token.specs.declared.token.Token.{Token}
use Rattle.cv_token.specs.declared.token.Token.TheVariants as token
use Rattle.cv_token.specs.declared.identifiers.ActorId.{ActorId}
use Rattle.cv_token.specs.declared.identifiers.AppId.{AppId}
use Rattle.cv_table.specs.Order.{actor_cmp, same_actor}
use Rattle.cv_table.proofs.Views.{get_inserted}
use Rattle.cv_behave.specs.Values.{item_of}
use Rattle.cv_flow.specs.declared.kind.FlowKind.{FlowKind}
use Rattle.cv_flow.specs.declared.kind.FlowKind.TheVariants as flow
use Rattle.cv_flow.specs.Rows.{row_of as flow_row}
use Rattle.cv_flow.specs.Values.{milliseconds}
use Rattle.cv_kinds.specs.declared.kind.Kind.{Kind}
use Rattle.cv_kinds.specs.declared.kind.Kind.TheVariants as kind
use Rattle.cv_kinds.specs.declared.network.ActorSpec.{ActorSpec}
use Rattle.cv_kinds.specs.declared.network.Connection.{Connection}
use Rattle.cv_kinds.specs.KindRow.{row_of}
use Rattle.cv_kinds.specs.Sorts.{are_args, are_arguments, is_within, longest}
use Rattle.cv_kinds.specs.Table.{flow_line, line_of}
use Rattle.cv_kinds.specs.WellFormed.{IsSpec}
use Rattle.cv_kinds.proofs.Parts.{arg_0}
use Rattle.cv_protocol.specs.Actors.{LiveState}
use Rattle.cv_protocol.specs.Travel.{new_live}
use Rattle.cv_state.specs.Opening.{all_placed, settled_if}
use Rattle.cv_bounds.specs.Moments.{EmptyIsStart, OpenedIsStart, WaitsBriefly, duration_limit}
use Rattle.cv_bounds.proofs.Opening.{opened_is_new}

-- 1. The pauses of the kinds

not_true : (b : Bool) → not b ≡ true → b ≡ false
not_true true is = sym is
not_true false is = refl

duration_short : (t : Token) → is_within (pos 0) (pos longest) t ≡ true → milliseconds t < duration_limit
duration_short (token.Int (pos n)) is =
    let high = not_true (int_lt (pos longest) (pos n)) (and_parts (not (int_lt (pos n) (pos 0))) (not (int_lt (pos longest) (pos n))) is).1 in
    grind (arith, nat_tests, high)
duration_short (token.Int (negsuc n)) is = omega arith
duration_short _ is = omega arith

flow_short : (k : FlowKind) (args : List Token) → are_arguments (flow_line k).params args ≡ true → (flow_row k).pause args < duration_limit
flow_short flow.CountTimer args fit = duration_short (item_of args 0) (arg_0 (flow_line flow.CountTimer).params args fit)
flow_short flow.Trigger args fit = duration_short (item_of args 0) (arg_0 (flow_line flow.Trigger).params args fit)
flow_short flow.Delay args fit = duration_short (item_of args 0) (arg_0 (flow_line flow.Delay).params args fit)
flow_short _ args fit = omega arith

pause_short : (k : Kind) (args : List Token) → are_args k args ≡ true → (row_of k).pause args < duration_limit
unfolding row_of line_of
pause_short (kind.Flow k) args fit = flow_short k args fit
pause_short (kind.Calc k) args fit = omega arith

-- 2. Actors at their start

new_brief : (app : AppId) (connections : List Connection) (actor : ℕ) (spec : ActorSpec) → IsSpec spec → WaitsBriefly 0 (new_live app connections actor spec 0)
new_brief app connections actor spec is =
    let short = pause_short spec.kind spec.args is.args in
    record { due = omega (arith, short); pause = short }

abbrev AllBrief : map.FinMap actor_cmp LiveState → Type 0
AllBrief m = (a : ActorId) (l : LiveState) → map.get m a ≡ Some l → WaitsBriefly 0 l

none_brief : AllBrief map.empty
none_brief a l is = absurd (none_some l (sym (map.get-empty actor_cmp a) ∙ is))

put_brief : (b : Bool) (m : map.FinMap actor_cmp LiveState) (l : LiveState) → AllBrief m → WaitsBriefly 0 l → AllBrief (settled_if b m l)
put_brief false m l all new a k is = all a k is
put_brief true m l all new a k is =
    by_same (same_actor a l.actor.id) (sym (get_inserted m l.actor.id l a) ∙ is)
  where
    by_same : (t : Bool) → cond t (Some l) (map.get m a) ≡ Some k → WaitsBriefly 0 k
    by_same true e = subst (WaitsBriefly 0) (same_Some l k e) new
    by_same false e = all a k e

placed_brief : (app : AppId) (connections : List Connection) (home actor : ℕ) (specs : List ActorSpec) (at : List ℕ) (m : map.FinMap actor_cmp LiveState) → All IsSpec specs → AllBrief m → AllBrief (all_placed app connections home actor specs at m)
placed_brief app connections home actor [] at m fit all = all
placed_brief app connections home actor (spec ∷ specs) [] m fit all = all
placed_brief app connections home actor (spec ∷ specs) (node ∷ at) m fit all =
    placed_brief app connections home (suc actor) specs at (settled_if (node == home) m (new_live app connections actor spec 0)) (All-tail IsSpec spec specs fit) (put_brief (node == home) m (new_live app connections actor spec 0) all (new_brief app connections actor spec (All-head IsSpec spec specs fit)))

pub opened_is_start : OpenedIsStart
opened_is_start spec app net at fit = record {
  new = opened_is_new spec app net at;
  early = refl;
  brief = placed_brief app net.connections spec.no 0 net.actors at map.empty fit.specs none_brief;
}

pub empty_is_start : EmptyIsStart
empty_is_start spec = record {
  new = record {
    unstamped = refl;
    few = record {
      live = λ a l is. absurd (none_some l (sym (map.get-empty actor_cmp a) ∙ is));
      hints = λ a h is. absurd (none_some h (sym (map.get-empty actor_cmp a) ∙ is));
    };
  };
  early = refl;
  brief = none_brief;
}
