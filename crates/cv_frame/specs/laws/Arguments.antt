-- Arguments of a kind.
use Rattle.std.proofs.Common.{◌≡◌, ℕ, List, Some, refl, sym, ap, ◌∙◌}
use Rattle.cv_token.specs.declared.token.Token.TheVariants as tree
use Rattle.cv_kinds.specs.Table.{line_of}
use Rattle.cv_kinds.specs.Names.{all_kinds, first_named}
use Rattle.cv_kinds.specs.declared.network.ActorSpec.{ActorSpec}
use Rattle.cv_kinds.proofs.Lines.{itself}
use Rattle.cv_frame.specs.Trees.{spec_trees, word}
use Rattle.cv_frame.specs.laws.Shapes.{same_list}

pub one_word : (s r : List ℕ) → word s ≡ word r → s ≡ r
one_word s r e = cc

-- a path, a kind and arguments have trees of their own
pub one_spec : (s r : ActorSpec) → spec_trees s ≡ spec_trees r → s ≡ r
one_spec s r e =
    let path : s.path ≡ r.path = one_word s.path r.path (ap (λ p. p.0) e) in
    let name : (line_of s.kind).name ≡ (line_of r.kind).name = one_word _ _ (ap (λ p. p.1.0) e) in
    let kind : s.kind ≡ r.kind = let k : Some s.kind ≡ Some r.kind = sym (itself s.kind) ∙ ap (first_named all_kinds) name ∙ itself r.kind in cc in
    let args : s.args ≡ r.args = same_list (tree.List s.args) s.args r.args refl (ap (λ p. p.1.1) e) in
    λ i. record { path = path i; kind = kind i; args = args i }
