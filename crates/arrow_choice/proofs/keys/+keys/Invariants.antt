use Rattle.arrow_choice.proofs.Common.{◌+◌, ◌*◌, ◌<◌, get_or, map, any_array_type, layout_of, depth, depth_of_all, to_layouts, HasNoDictionary, HasNoKeys}
use Rattle.arrow_choice.proofs.keys.+keys.Given as goal

-- each call goes to a less deep array, or comes nearer to one

abbrev pub decreases-show_no_keys : goal.decreases-show_no_keys
decreases-show_no_keys l = 2 * depth (layout_of l.array.now)

abbrev pub decreases-show_no_keys_in : goal.decreases-show_no_keys_in
decreases-show_no_keys_in l = 2 * depth_of_all (to_layouts (map layout_of l.children.now)) + 1

-- the children so far hold none
abbrev pub invariant-show_no_keys_in-loop-child : goal.invariant-show_no_keys_in-loop-child
invariant-show_no_keys_in-loop-child l =
    (k : _) (d : _) → k < l.child-index → HasNoDictionary (any_array_type (get_or l.children k d)) → HasNoKeys (layout_of (get_or l.children k d))
