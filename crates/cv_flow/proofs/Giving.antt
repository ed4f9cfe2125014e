-- Each action gives as many tokens as its row says.
use Rattle.std.proofs.Common.{refl}
use Rattle.cv_behave.specs.KindRow.{GivesItsTokens, effect_of}
use Rattle.cv_behave.proofs.Giving.{gives, one_gives, two_give, three_give}
use Rattle.cv_flow.specs.declared.kind.FlowKind.{FlowKind}
use Rattle.cv_flow.specs.declared.kind.FlowKind.TheVariants as kind
use Rattle.cv_flow.specs.Rows.{row_of}

pub gives_its_tokens : (k : FlowKind) → GivesItsTokens (row_of k)
gives_its_tokens kind.Delay = two_give (row_of kind.Delay) refl (λ args state heads port. gives (effect_of (row_of kind.Delay) args state 0 heads).out port) (λ args state heads port. gives (effect_of (row_of kind.Delay) args state 1 heads).out port)
gives_its_tokens kind.Init = two_give (row_of kind.Init) refl (λ args state heads port. gives (effect_of (row_of kind.Init) args state 0 heads).out port) (λ args state heads port. gives (effect_of (row_of kind.Init) args state 1 heads).out port)
gives_its_tokens kind.Join = two_give (row_of kind.Join) refl (λ args state heads port. gives (effect_of (row_of kind.Join) args state 0 heads).out port) (λ args state heads port. gives (effect_of (row_of kind.Join) args state 1 heads).out port)
gives_its_tokens kind.Alternate2 = two_give (row_of kind.Alternate2) refl (λ args state heads port. gives (effect_of (row_of kind.Alternate2) args state 0 heads).out port) (λ args state heads port. gives (effect_of (row_of kind.Alternate2) args state 1 heads).out port)
gives_its_tokens kind.Dealternate2 = two_give (row_of kind.Dealternate2) refl (λ args state heads port. gives (effect_of (row_of kind.Dealternate2) args state 0 heads).out port) (λ args state heads port. gives (effect_of (row_of kind.Dealternate2) args state 1 heads).out port)
gives_its_tokens kind.Select = two_give (row_of kind.Select) refl (λ args state heads port. gives (effect_of (row_of kind.Select) args state 0 heads).out port) (λ args state heads port. gives (effect_of (row_of kind.Select) args state 1 heads).out port)
gives_its_tokens kind.Switch = two_give (row_of kind.Switch) refl (λ args state heads port. gives (effect_of (row_of kind.Switch) args state 0 heads).out port) (λ args state heads port. gives (effect_of (row_of kind.Switch) args state 1 heads).out port)
gives_its_tokens kind.Unbatch = two_give (row_of kind.Unbatch) refl (λ args state heads port. gives (effect_of (row_of kind.Unbatch) args state 0 heads).out port) (λ args state heads port. gives (effect_of (row_of kind.Unbatch) args state 1 heads).out port)
gives_its_tokens kind.Take = two_give (row_of kind.Take) refl (λ args state heads port. gives (effect_of (row_of kind.Take) args state 0 heads).out port) (λ args state heads port. gives (effect_of (row_of kind.Take) args state 1 heads).out port)
gives_its_tokens kind.Skip = two_give (row_of kind.Skip) refl (λ args state heads port. gives (effect_of (row_of kind.Skip) args state 0 heads).out port) (λ args state heads port. gives (effect_of (row_of kind.Skip) args state 1 heads).out port)
gives_its_tokens kind.Every = two_give (row_of kind.Every) refl (λ args state heads port. gives (effect_of (row_of kind.Every) args state 0 heads).out port) (λ args state heads port. gives (effect_of (row_of kind.Every) args state 1 heads).out port)
gives_its_tokens kind.Change = two_give (row_of kind.Change) refl (λ args state heads port. gives (effect_of (row_of kind.Change) args state 0 heads).out port) (λ args state heads port. gives (effect_of (row_of kind.Change) args state 1 heads).out port)
gives_its_tokens kind.Alternate3 = three_give (row_of kind.Alternate3) refl (λ args state heads port. gives (effect_of (row_of kind.Alternate3) args state 0 heads).out port) (λ args state heads port. gives (effect_of (row_of kind.Alternate3) args state 1 heads).out port) (λ args state heads port. gives (effect_of (row_of kind.Alternate3) args state 2 heads).out port)
gives_its_tokens kind.Valve = three_give (row_of kind.Valve) refl (λ args state heads port. gives (effect_of (row_of kind.Valve) args state 0 heads).out port) (λ args state heads port. gives (effect_of (row_of kind.Valve) args state 1 heads).out port) (λ args state heads port. gives (effect_of (row_of kind.Valve) args state 2 heads).out port)
gives_its_tokens k = one_gives (row_of k) refl (λ args state heads port. gives (effect_of (row_of k) args state 0 heads).out port)
