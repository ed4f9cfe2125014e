-- A script that is read is read alike with more levels, and so is a fault that is no level too many.
use Rattle.std.proofs.Common.{ℕ, zero, suc, ◌-◌, ◌≤◌, List, refl, arith}
use Rattle.cv_lex.specs.declared.word.Mark.TheVariants as marks
use Rattle.cv_lex.specs.declared.word.Reserved.TheVariants as reserved
use Rattle.cv_lex.specs.declared.word.Placed.{Placed}
use Rattle.cv_readers.specs.declared.name.Name.{Name}
use Rattle.cv_readers.specs.Reading.{Read, Reader, ◌>>=◌, first_is, behind, is_mark, is_reserved, name_at, bare_at, text_at, reserved_at, open_at, place_of}
use Rattle.cv_readers.specs.Combining.{mapped, closed, after, many, sep, listed}
use Rattle.cv_readers.proofs.Kepts.{Kept, Rises, kept_same, kept_bind, kept_mapped, kept_cond, kept_closed, rises_after, rises_many, rises_sep, rises_listed, rises_open}
use Rattle.cv_syntax.specs.declared.tree.Literal.{Literal}
use Rattle.cv_syntax.specs.declared.tree.Literal.TheVariants as literals
use Rattle.cv_syntax.specs.declared.tree.Value.TheVariants as values
use Rattle.cv_syntax.specs.declared.tree.JoinSource.TheVariants as sources
use Rattle.cv_syntax.specs.declared.tree.Statement.TheVariants as statements
use Rattle.cv_syntax.specs.declared.tree.Factor.{Factor}
use Rattle.cv_syntax.specs.declared.tree.Factor.TheVariants as factors
use Rattle.cv_syntax.specs.declared.tree.Item.TheVariants as items
use Rattle.cv_syntax.specs.Small.{scalar_at, match_name, index_name, exactly_at, is_name, is_any_name, field_at, fields_at, index_at, bracket_at, group_at, match_at, kind_at}
use Rattle.cv_syntax.specs.Nested.{opens, lifts, literal_with, pair_with, nest_with, nest_at, literal_at, factor_with, terms_with, lift_with, lift_at, factor_at, terms_at}
use Rattle.cv_syntax.specs.Whole.{is_fraction, fraction_at, value_at, arg_at, declare_at, join_at, port_at, named_at, source_at, statement_at, is_inside, body_at, component_at, define_at, rule_at, apply_at, item_at, is_anything, items_at}

-- a reading that another one follows
behind_same : {X Y : Type 0} (a : Read X) (f g : X × List Placed → Read Y) → ((p : X × List Placed) → Kept (f p) (g p)) → Kept (a >>= f) (a >>= g)
behind_same a f g h = kept_bind a a f g (kept_same a) h

-- ---- literals

rises_pair : (R S : Reader Literal) → Rises R S → Rises (pair_with R) (pair_with S)
unfolding pair_with
rises_pair R S h ws = behind_same (text_at ws) _ _ (λ key. kept_mapped _ (after marks.Colon R key.1) (after marks.Colon S key.1) (rises_after marks.Colon R S h key.1))

rises_nest : (R S : Reader Literal) → Rises R S → Rises (nest_with R) (nest_with S)
rises_nest R S h ws =
    kept_cond (first_is (is_mark marks.OpenBracket) ws) _ _ _ _
    (kept_mapped literals.List (listed marks.CloseBracket R (behind ws)) (listed marks.CloseBracket S (behind ws)) (rises_listed marks.CloseBracket R S h (behind ws)))
    (kept_mapped literals.Dict (after marks.OpenBrace (listed marks.CloseBrace (pair_with R)) ws) (after marks.OpenBrace (listed marks.CloseBrace (pair_with S)) ws)
    (rises_after marks.OpenBrace (listed marks.CloseBrace (pair_with R)) (listed marks.CloseBrace (pair_with S)) (rises_listed marks.CloseBrace (pair_with R) (pair_with S) (rises_pair R S h)) ws))

rises_literal_with : (R S : Reader Literal) → Rises R S → Rises (literal_with R) (literal_with S)
rises_literal_with R S h ws = kept_cond (first_is opens ws) (R ws) (S ws) (scalar_at ws) (scalar_at ws) (h ws) (kept_same (scalar_at ws))

rises_nest_at : (n k : ℕ) → n ≤ k → Rises (nest_at n) (nest_at k)
rises_nest_at zero k l ws = λ d. cc
rises_nest_at (suc n) zero l ws = absurd (omega arith)
rises_nest_at (suc n) (suc k) l ws = rises_nest (literal_with (nest_at n)) (literal_with (nest_at k)) (rises_literal_with (nest_at n) (nest_at k) (rises_nest_at n k (omega arith))) ws

rises_literal : (n k : ℕ) → n ≤ k → Rises (literal_at n) (literal_at k)
unfolding literal_at
rises_literal n k l = rises_literal_with (nest_at n) (nest_at k) (rises_nest_at n k l)

-- ---- expressions

rises_fields : (n k : ℕ) → n ≤ k → Rises (fields_at n) (fields_at k)
unfolding fields_at
rises_fields n k l ws = kept_bind (open_at marks.OpenBrace n ws) (open_at marks.OpenBrace k ws) _ _ (rises_open marks.OpenBrace n k l ws) (λ r. kept_same (listed marks.CloseBrace field_at r.1))

rises_index : (n k : ℕ) → n ≤ k → Rises (index_at n) (index_at k)
unfolding index_at
rises_index n k l ws = behind_same (text_at ws) _ _ (λ g. kept_mapped _ (after marks.Comma (fields_at n) g.1) (after marks.Comma (fields_at k) g.1) (rises_after marks.Comma (fields_at n) (fields_at k) (rises_fields n k l) g.1))

rises_bracket : (n k : ℕ) → n ≤ k → Rises (bracket_at n) (bracket_at k)
unfolding bracket_at
rises_bracket n k l ws = kept_bind (open_at marks.OpenBracket n ws) (open_at marks.OpenBracket k ws) _ _ (rises_open marks.OpenBracket n k l ws) (λ r. kept_closed marks.CloseBracket (index_at (n - 1) r.1) (index_at (k - 1) r.1) (rises_index (n - 1) (k - 1) (omega arith) r.1))

rises_group : (n k : ℕ) → n ≤ k → Rises (group_at n) (group_at k)
unfolding group_at
rises_group n k l ws = kept_bind (open_at marks.OpenParen n ws) (open_at marks.OpenParen k ws) _ _ (rises_open marks.OpenParen n k l ws)
    (λ r. behind_same (exactly_at index_name r.1) _ _ (λ i. kept_closed marks.CloseParen (after marks.Equals (bracket_at (n - 1)) i.1) (after marks.Equals (bracket_at (k - 1)) i.1) (rises_after marks.Equals (bracket_at (n - 1)) (bracket_at (k - 1)) (rises_bracket (n - 1) (k - 1) (omega arith)) i.1)))

rises_match : (n k : ℕ) → n ≤ k → Rises (match_at n) (match_at k)
unfolding match_at
rises_match n k l ws = behind_same (exactly_at match_name ws) _ _ (λ r. rises_group n k l r.1)

rises_terms_with : (R S : Reader Factor) → Rises R S → Rises (terms_with R) (terms_with S)
rises_terms_with R S h = rises_sep marks.Bar (sep marks.Ampersand R) (sep marks.Ampersand S) (rises_sep marks.Ampersand R S h)

rises_lift : (R S : Reader Factor) → Rises R S → Rises (lift_with R) (lift_with S)
rises_lift R S h ws =
    kept_cond (first_is (is_mark marks.Tilde) ws) _ _ _ _
    (kept_mapped factors.Not (R (behind ws)) (S (behind ws)) (h (behind ws)))
    (kept_mapped factors.Group (closed marks.CloseParen (after marks.OpenParen (terms_with R) ws)) (closed marks.CloseParen (after marks.OpenParen (terms_with S) ws))
    (kept_closed marks.CloseParen (after marks.OpenParen (terms_with R) ws) (after marks.OpenParen (terms_with S) ws) (rises_after marks.OpenParen (terms_with R) (terms_with S) (rises_terms_with R S h) ws)))

rises_factor_with : (n k : ℕ) → n ≤ k → (R S : Reader Factor) → Rises R S → Rises (factor_with R n) (factor_with S k)
rises_factor_with n k l R S h ws =
    kept_cond (first_is lifts ws) (R ws) (S ws) _ _ (h ws)
    (kept_cond (first_is (is_name match_name) ws) _ _ _ _ (kept_mapped factors.Match (match_at n ws) (match_at k ws) (rises_match n k l ws)) (kept_same (mapped factors.Name (name_at ws))))

rises_lift_at : (n k : ℕ) → n ≤ k → Rises (lift_at n) (lift_at k)
rises_lift_at zero k l ws = λ d. cc
rises_lift_at (suc n) zero l ws = absurd (omega arith)
rises_lift_at (suc n) (suc k) l ws = rises_lift (factor_with (lift_at n) n) (factor_with (lift_at k) k) (rises_factor_with n k (omega arith) (lift_at n) (lift_at k) (rises_lift_at n k (omega arith))) ws

rises_terms : (n k : ℕ) → n ≤ k → Rises (terms_at n) (terms_at k)
unfolding terms_at factor_at
rises_terms n k l = rises_terms_with (factor_at n) (factor_at k) (rises_factor_with n k l (lift_at n) (lift_at k) (rises_lift_at n k l))

-- ---- statements

rises_value : (n k : ℕ) → n ≤ k → Rises (value_at n) (value_at k)
unfolding value_at
rises_value n k l ws =
    kept_cond (first_is is_fraction ws) _ _ _ _ (kept_same (mapped values.Fraction (fraction_at ws)))
    (kept_cond (first_is is_any_name ws) _ _ _ _ (kept_same (mapped values.Name (name_at ws))) (kept_mapped values.Literal (literal_at n ws) (literal_at k ws) (rises_literal n k l ws)))

rises_arg : (n k : ℕ) → n ≤ k → Rises (arg_at n) (arg_at k)
unfolding arg_at
rises_arg n k l ws = behind_same (name_at ws) _ _ (λ p. kept_mapped _ (after marks.Equals (value_at n) p.1) (after marks.Equals (value_at k) p.1) (rises_after marks.Equals (value_at n) (value_at k) (rises_value n k l) p.1))

rises_declare : (n k : ℕ) → n ≤ k → (name : Name) → Rises (declare_at n name) (declare_at k name)
unfolding declare_at
rises_declare n k l name ws = behind_same (kind_at ws) _ _ (λ p. kept_mapped _ (after marks.OpenParen (listed marks.CloseParen (arg_at n)) p.1) (after marks.OpenParen (listed marks.CloseParen (arg_at k)) p.1)
    (rises_after marks.OpenParen (listed marks.CloseParen (arg_at n)) (listed marks.CloseParen (arg_at k)) (rises_listed marks.CloseParen (arg_at n) (arg_at k) (rises_arg n k l)) p.1))

rises_named : (n k : ℕ) → n ≤ k → (name : Name) → Rises (named_at n name) (named_at k name)
unfolding named_at
rises_named n k l name ws =
    kept_cond (first_is (is_mark marks.Colon) ws) _ _ _ _ (kept_mapped statements.Declare (declare_at n name (behind ws)) (declare_at k name (behind ws)) (rises_declare n k l name (behind ws)))
    (kept_same (port_at name ws >>= λ source. mapped statements.Join (join_at name.at source.0 source.1)))

rises_source : (n k : ℕ) → n ≤ k → Rises (source_at n) (source_at k)
unfolding source_at
rises_source n k l ws =
    kept_cond (first_is (is_reserved reserved.Voidport) ws) _ _ _ _ refl
    (kept_cond (first_is (is_mark marks.Dot) ws) _ _ _ _ (kept_same (mapped sources.Own (bare_at (behind ws)))) (kept_mapped sources.Literal (literal_at n ws) (literal_at k ws) (rises_literal n k l ws)))

rises_statement : (n k : ℕ) → n ≤ k → Rises (statement_at n) (statement_at k)
unfolding statement_at
rises_statement n k l ws =
    kept_cond (first_is is_any_name ws) _ _ _ _ (behind_same (name_at ws) _ _ (λ p. rises_named n k l p.0 p.1))
    (kept_bind (source_at n ws) (source_at k ws) _ _ (rises_source n k l ws) (λ s. kept_same (mapped statements.Join (join_at (place_of ws) s.0 s.1))))

rises_body : (n k : ℕ) → n ≤ k → Rises (body_at n) (body_at k)
unfolding body_at
rises_body n k l ws = kept_closed marks.CloseBrace (many is_inside (statement_at n) ws) (many is_inside (statement_at k) ws) (rises_many is_inside (statement_at n) (statement_at k) (rises_statement n k l) ws)

rises_component : (n k : ℕ) → n ≤ k → Rises (component_at n) (component_at k)
unfolding component_at
rises_component n k l ws =
    behind_same (reserved_at reserved.Component ws) _ _ (λ c. behind_same (name_at c.1) _ _ (λ name. behind_same (after marks.OpenParen (listed marks.CloseParen name_at) name.1) _ _
    (λ args. behind_same (listed marks.Arrow name_at args.1) _ _ (λ ins. behind_same (listed marks.OpenBrace name_at ins.1) _ _ (λ outs. kept_mapped _ (body_at n outs.1) (body_at k outs.1) (rises_body n k l outs.1))))))

rises_define : (n k : ℕ) → n ≤ k → Rises (define_at n) (define_at k)
unfolding define_at
rises_define n k l ws = behind_same (reserved_at reserved.Define ws) _ _ (λ d. behind_same (name_at d.1) _ _ (λ p. kept_mapped _ (after marks.Equals (value_at n) p.1) (after marks.Equals (value_at k) p.1) (rises_after marks.Equals (value_at n) (value_at k) (rises_value n k l) p.1)))

rises_rule : (n k : ℕ) → n ≤ k → Rises (rule_at n) (rule_at k)
unfolding rule_at
rises_rule n k l ws = behind_same (reserved_at reserved.Rule ws) _ _ (λ r. behind_same (name_at r.1) _ _ (λ p. kept_mapped _ (after marks.Colon (terms_at n) p.1) (after marks.Colon (terms_at k) p.1) (rises_after marks.Colon (terms_at n) (terms_at k) (rises_terms n k l) p.1)))

rises_apply : (n k : ℕ) → n ≤ k → Rises (apply_at n) (apply_at k)
unfolding apply_at
rises_apply n k l ws = behind_same (reserved_at reserved.Apply ws) _ _ (λ a. behind_same (sep marks.Comma name_at a.1) _ _ (λ p. kept_mapped _ (after marks.Colon (terms_at n) p.1) (after marks.Colon (terms_at k) p.1) (rises_after marks.Colon (terms_at n) (terms_at k) (rises_terms n k l) p.1)))

rises_item : (n k : ℕ) → n ≤ k → Rises (item_at n) (item_at k)
unfolding item_at
rises_item n k l ws =
    kept_cond (first_is (is_reserved reserved.Component) ws) _ _ _ _ (kept_mapped items.Component (component_at n ws) (component_at k ws) (rises_component n k l ws))
    (kept_cond (first_is (is_reserved reserved.Define) ws) _ _ _ _ (kept_mapped items.Define (define_at n ws) (define_at k ws) (rises_define n k l ws))
    (kept_cond (first_is (is_reserved reserved.Rule) ws) _ _ _ _ (kept_mapped items.Rule (rule_at n ws) (rule_at k ws) (rises_rule n k l ws))
    (kept_cond (first_is (is_reserved reserved.Apply) ws) _ _ _ _ (kept_mapped items.Apply (apply_at n ws) (apply_at k ws) (rises_apply n k l ws))
    (kept_mapped items.Statement (statement_at n ws) (statement_at k ws) (rises_statement n k l ws)))))

pub rises_items : (n k : ℕ) → n ≤ k → Rises (items_at n) (items_at k)
unfolding items_at
rises_items n k l = rises_many is_anything (item_at n) (item_at k) (rises_item n k l)
