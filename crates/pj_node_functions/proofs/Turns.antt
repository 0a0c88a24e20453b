-- Values in the place of attributes, one item after the other.
use Rattle.std.proofs.Common.{◌≡◌, ℕ, ◌+◌, ◌<◌, List, ◌++◌, length, get_or, take, sym, ◌∙◌}
use Rattle.pj_xvalue.specs.Items.{value_of_item, values_of}
use Rattle.pj_xvalue.specs.declared.item.Item.{Item}
use Rattle.pj_xsteps.specs.Context.{Around}
use Rattle.pj_xsteps.specs.Operands.{valued, with_values}
use Rattle.pj_xsteps.proofs.Values.{valued_more}

pub valued-turn : (a : Around) (items : List Item) (i : ℕ) (x : Item) (old new : List Item) → i < length items → x ≡ get_or items i x
    → values_of new ≡ values_of old ++ valued a (value_of_item x) → values_of old ≡ with_values a (values_of (take i items)) → values_of new ≡ with_values a (values_of (take (i + 1) items))
valued-turn a items i x old new below is put so_far = put ∙ (λ k. so_far k ++ valued a (value_of_item x)) ∙ sym (valued_more a items i x below is)
