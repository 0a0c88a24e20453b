use Rattle.pj_xaxes.proofs.Windows.{window_child, window_descendant, window_descendant_or_self, window_following_sibling, window_following, window_ancestor, window_preceding_sibling, window_ancestor_or_self}
use Rattle.pj_xaxes.proofs.search.window.Goals as goal

pub returns-in-Child : goal.returns-in-Child
returns-in-Child c =
    rw c.in-Child.is (window_child c.args.tree.now c.len-count.ensures.tree c.args.n c.requires.inside c.subtree_end-end.result.0 c.subtree_end-end.ensures.within c.subtree_end-end.ensures.past c.subtree_end-end.ensures.descendants)

pub returns-in-Descendant : goal.returns-in-Descendant
returns-in-Descendant c =
    rw c.in-Descendant.is (window_descendant c.args.tree.now c.len-count.ensures.tree c.args.n c.requires.inside c.subtree_end-end.result.0 c.subtree_end-end.ensures.within c.subtree_end-end.ensures.past c.subtree_end-end.ensures.descendants)

pub returns-in-DescendantOrSelf : goal.returns-in-DescendantOrSelf
returns-in-DescendantOrSelf c =
    rw c.in-DescendantOrSelf.is (window_descendant_or_self c.args.tree.now c.len-count.ensures.tree c.args.n c.requires.inside c.subtree_end-end.result.0 c.subtree_end-end.ensures.within c.subtree_end-end.ensures.past c.subtree_end-end.ensures.descendants)

pub returns-in-FollowingSibling : goal.returns-in-FollowingSibling
returns-in-FollowingSibling c =
    rw c.in-FollowingSibling.is (window_following_sibling c.args.tree.now c.len-count.ensures.tree c.args.n c.requires.inside c.subtree_end-end.result.0 c.subtree_end-end.ensures.within c.subtree_end-end.ensures.past c.subtree_end-end.ensures.descendants
    c.past_siblings.result c.past_siblings.ensures.within c.past_siblings.ensures.past)

pub returns-in-Following : goal.returns-in-Following
returns-in-Following c =
    rw (c.in-Following.is, c.len-count.ensures.value) (window_following c.args.tree.now c.len-count.ensures.tree c.args.n c.requires.inside c.subtree_end-end.result.0 c.subtree_end-end.ensures.within c.subtree_end-end.ensures.past c.subtree_end-end.ensures.descendants)

pub returns-in-Ancestor : goal.returns-in-Ancestor
returns-in-Ancestor c =
    rw c.in-Ancestor.is (window_ancestor c.args.tree.now c.len-count.ensures.tree c.args.n c.requires.inside c.subtree_end-end.result.0 c.subtree_end-end.ensures.within c.subtree_end-end.ensures.past c.subtree_end-end.ensures.descendants
    c.past_parent-past.result c.past_parent-past.ensures.before c.past_parent-past.ensures.past)

pub returns-in-PrecedingSibling : goal.returns-in-PrecedingSibling
returns-in-PrecedingSibling c =
    rw c.in-PrecedingSibling.is (window_preceding_sibling c.args.tree.now c.len-count.ensures.tree c.args.n c.requires.inside c.subtree_end-end.result.0 c.subtree_end-end.ensures.within c.subtree_end-end.ensures.past c.subtree_end-end.ensures.descendants
    c.past_parent-past.result c.past_sibling_before.result c.past_parent-past.ensures.before c.past_parent-past.ensures.past c.past_sibling_before.ensures)

pub returns-in-AncestorOrSelf : goal.returns-in-AncestorOrSelf
returns-in-AncestorOrSelf c =
    rw c.in-AncestorOrSelf.is (window_ancestor_or_self c.args.tree.now c.len-count.ensures.tree c.args.n c.requires.inside c.subtree_end-end.result.0 c.subtree_end-end.ensures.within c.subtree_end-end.ensures.past c.subtree_end-end.ensures.descendants)
