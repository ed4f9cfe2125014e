use Rattle.std.proofs.Common.{◌≡◌, List, ℕ, Option, Some, None, sym, ◌∙◌}
use Rattle.cv_token.specs.declared.token.Token.{Token}
use Rattle.cv_token.specs.Spelling.{spelling}
use Rattle.cv_token.specs.Spells.{IsTree, Spells}
use Rattle.cv_token.proofs.Round.{one_spelling}
use Rattle.cv_kinds.specs.Net.{Net}
use Rattle.cv_kinds.specs.WellFormed.{IsWellFormed}
use Rattle.cv_network.specs.Read.{IsTextOf}
use Rattle.cv_network.specs.Written.{network_token}
use Rattle.cv_network.proofs.Held.{network_held}
use Rattle.cv_network.proofs.Images.{some_same}
use Rattle.cv_network.proofs.reading.network_read.Goals as goal

-- the tree of the text of a network is the network's
tree_is : (bytes : List ℕ) (t : Token) (o : Option Token) (net : Net) → o ≡ Some t → Spells IsTree spelling bytes o → IsTextOf bytes net → t ≡ network_token net
tree_is bytes t None net e is h = cc
tree_is bytes t (Some s) net e is h = sym (some_same s t e) ∙ one_spelling s (network_token net) is.0 (network_held net h.whole) (sym is.1 ∙ h.text)

no_tree : (bytes : List ℕ) (o : Option Token) (net : Net) → o ≡ None → Spells IsTree spelling bytes o → IsTextOf bytes net → ⊥
no_tree bytes None net e is h = is (network_token net) (network_held net h.whole) h.text
no_tree bytes (Some s) net e is h = cc

no_network : (t : Token) (o : Option Net) (net : Net) → o ≡ None → Spells IsWellFormed network_token t o → IsWellFormed net → t ≡ network_token net → ⊥
no_network t None net e is whole same = is net whole same
no_network t (Some n) net e is whole same = cc

pub returns-in_default : goal.returns-in_default
returns-in_default c = record {
  exact = λ net h. no_tree c.args.bytes.now c.in_ok-tree.field-0 net c.in_default.is c.in_ok-tree.ensures h;
  again = λ net h. no_tree c.args.bytes.now c.in_ok-tree.field-0 net c.in_default.is c.in_ok-tree.ensures h;
}

pub returns-in_default-2 : goal.returns-in_default-2
returns-in_default-2 c =
    let none = λ (net : Net) (h : IsTextOf c.args.bytes.now net).
    no_network c.in-Some.tree c.in_ok-net.field-0 net c.in_default-2.is c.in_ok-net.ensures.exact h.whole (tree_is c.args.bytes.now c.in-Some.tree c.in_ok-tree.field-0 net c.in-Some.is c.in_ok-tree.ensures h) in
    record { exact = none; again = none }

pub returns-clause-again : goal.returns-clause-again
returns-clause-again c = λ net h.
    let tree = tree_is c.args.bytes.now c.in-Some.tree c.in_ok-tree.field-0 net c.in-Some.is c.in_ok-tree.ensures h in
    some_same c.in-Some-2.net net (sym c.in-Some-2.is ∙ c.in_ok-net.ensures.again net h.whole tree)
