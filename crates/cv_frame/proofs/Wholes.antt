-- A state of parts that travel is one that travels.
use Rattle.std.proofs.Common.{◌≡◌, ℕ, true, List, [], ◌∷◌, map, length, codes, refl, sym, subst}
use Rattle.std.specs.List.{All}
use Rattle.cv_token.specs.declared.token.Token.{Token}
use Rattle.cv_token.specs.declared.token.Token.TheVariants as tree
use Rattle.cv_kinds.specs.Sorts.{is_state}
use Rattle.cv_kinds.specs.Table.{line_of}
use Rattle.cv_protocol.specs.Actors.{Actor, StateView, IsShaped}
use Rattle.cv_protocol.specs.declared.state.Hint.{Hint}
use Rattle.cv_frame.specs.Trees.{hint_tree, inlet_tree, number, out_tree, state_tree, word}
use Rattle.cv_kinds.specs.WellFormed.{IsSpec}
use Rattle.cv_frame.specs.Values.{AreHints, IsIn, IsOut, IsState, IsWait}

pub state_made : (t : Token) (r : StateView) (a : Actor) (wait : ℕ) (hints : List Hint) → r.actor ≡ a → r.wait ≡ wait → r.hints ≡ hints
    → IsSpec a.spec → is_state a.spec.kind a.spec.args a.slots ≡ true → IsWait wait → All IsIn a.ins → All IsOut a.outs → IsShaped a.spec.kind (length a.ins) (length a.outs) → AreHints hints
    → t ≡ tree.List (word (codes "cs1") ∷ word a.spec.path ∷ word (line_of a.spec.kind).name ∷ tree.List a.spec.args ∷ tree.List a.slots ∷ number wait ∷ tree.Null ∷ tree.List (map inlet_tree a.ins) ∷ tree.List (map out_tree a.outs) ∷ tree.List (map hint_tree hints) ∷ [])
    → (IsState r × (r.actor.id ≡ a.id)) × (t ≡ state_tree r)
state_made t r a wait hints ea ew eh spec slots w ins outs shaped h is =
    let same : r ≡ record { actor = a; wait = wait; hints = hints } = λ i. record { actor = ea i; wait = ew i; hints = eh i } in
    subst (λ (s : StateView). (IsState s × (s.actor.id ≡ a.id)) × (t ≡ state_tree s)) (sym same)
    ((record { spec = spec; slots = slots; wait = w; ins = ins; outs = outs; shaped = shaped; hints = h }, refl), is)
