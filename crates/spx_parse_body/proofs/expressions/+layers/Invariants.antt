use Rattle.std.proofs.Common.{◌≡◌, ◌*◌, ◌+◌, ◌-◌, ◌≤◌, length}
use Rattle.spx_parse_body.specs.Expressions.{below, chained, more_parts, more_named, name_steps}
use Rattle.spx_parse_body.proofs.expressions.+layers.Given as goal

abbrev pub decreases-at_layer : goal.decreases-at_layer
decreases-at_layer l = 30 * l.levels + 22

abbrev pub decreases-connection : goal.decreases-connection
decreases-connection l = 30 * l.levels + 21

abbrev pub decreases-combination : goal.decreases-combination
decreases-combination l = 30 * l.levels + 20

abbrev pub decreases-opening : goal.decreases-opening
decreases-opening l = 30 * l.levels + 19

abbrev pub decreases-relation : goal.decreases-relation
decreases-relation l = 30 * l.levels + 18

abbrev pub decreases-sum : goal.decreases-sum
decreases-sum l = 30 * l.levels + 17

abbrev pub decreases-signed : goal.decreases-signed
decreases-signed l = 30 * l.levels + 16

abbrev pub decreases-term : goal.decreases-term
decreases-term l = 30 * l.levels + 15

abbrev pub decreases-factor : goal.decreases-factor
decreases-factor l = 30 * l.levels + 14

abbrev pub decreases-power : goal.decreases-power
decreases-power l = 30 * l.levels + 13

abbrev pub decreases-primary : goal.decreases-primary
decreases-primary l = 30 * l.levels + 12

abbrev pub decreases-name_primary : goal.decreases-name_primary
decreases-name_primary l = 30 * l.levels + 11

abbrev pub decreases-tall_name : goal.decreases-tall_name
decreases-tall_name l = 30 * l.levels + 10

abbrev pub decreases-name_steps : goal.decreases-name_steps
decreases-name_steps l = 30 * l.levels + 9

abbrev pub decreases-step : goal.decreases-step
decreases-step l = 30 * l.levels + 8

abbrev pub decreases-application : goal.decreases-application
decreases-application l = 30 * l.levels + 7

abbrev pub decreases-arguments : goal.decreases-arguments
decreases-arguments l = 30 * l.levels + 6

abbrev pub decreases-outside : goal.decreases-outside
decreases-outside l = 30 * l.levels + 5

abbrev pub decreases-inside : goal.decreases-inside
decreases-inside l = 30 * l.levels + 5

abbrev pub decreases-named_by : goal.decreases-named_by
decreases-named_by l = 30 * l.levels + 5

abbrev pub decreases-combined : goal.decreases-combined
decreases-combined l = 30 * l.levels + 4

abbrev pub decreases-member : goal.decreases-member
decreases-member l = 30 * l.levels + 4

abbrev pub decreases-named : goal.decreases-named
decreases-named l = 30 * l.levels + 4

abbrev pub decreases-chained : goal.decreases-chained
decreases-chained l = 30 * l.levels + 3

abbrev pub decreases-more_named : goal.decreases-more_named
decreases-more_named l = 30 * l.levels + 3

abbrev pub decreases-in_parentheses : goal.decreases-in_parentheses
decreases-in_parentheses l = 30 * l.levels + 2

abbrev pub decreases-operated : goal.decreases-operated
decreases-operated l = 30 * l.levels + 2

abbrev pub decreases-infix : goal.decreases-infix
decreases-infix l = 30 * l.levels + 2

abbrev pub decreases-named_part : goal.decreases-named_part
decreases-named_part l = 30 * l.levels + 2

abbrev pub decreases-positional : goal.decreases-positional
decreases-positional l = 30 * l.levels + 2

abbrev pub decreases-quotation : goal.decreases-quotation
decreases-quotation l = 30 * l.levels + 2

abbrev pub decreases-between_parentheses : goal.decreases-between_parentheses
decreases-between_parentheses l = 30 * l.levels + 1

abbrev pub decreases-association : goal.decreases-association
decreases-association l = 30 * l.levels + 1

abbrev pub decreases-more_parts : goal.decreases-more_parts
decreases-more_parts l = 30 * l.levels + 1

abbrev pub decreases-qualification : goal.decreases-qualification
decreases-qualification l = 30 * l.levels + 1

abbrev pub decreases-below : goal.decreases-below
decreases-below l = 30 * l.levels

abbrev pub invariant-chained-loop-op : goal.invariant-chained-loop-op
invariant-chained-loop-op l = (chained l.marked (below l.marked l.levels) l.levels l.chain l.fn.first l.fn.cursor ≡ chained l.marked (below l.marked l.levels) l.levels l.chain l.left l.cursor) × (l.left.height ≤ l.levels)

abbrev pub decreases-chained-loop-op : goal.decreases-chained-loop-op
decreases-chained-loop-op l = l.levels - l.left.height

abbrev pub invariant-more_parts-more : goal.invariant-more_parts-more
invariant-more_parts-more l = (more_parts l.marked (below l.marked l.levels) l.levels l.fn.first l.fn.cursor ≡ more_parts l.marked (below l.marked l.levels) l.levels l.parts l.cursor) × (l.parts.height ≤ l.levels)

abbrev pub decreases-more_parts-more : goal.decreases-more_parts-more
decreases-more_parts-more l = length l.cursor

abbrev pub invariant-more_named-more : goal.invariant-more_named-more
invariant-more_named-more l = (more_named l.marked (below l.marked l.levels) l.levels l.fn.first l.fn.cursor ≡ more_named l.marked (below l.marked l.levels) l.levels l.parts l.cursor) × (l.parts.height ≤ l.levels)

abbrev pub decreases-more_named-more : goal.decreases-more_named-more
decreases-more_named-more l = length l.cursor

abbrev pub invariant-name_steps-more : goal.invariant-name_steps-more
invariant-name_steps-more l = (name_steps l.marked (below l.marked l.levels) l.levels l.fn.first l.fn.cursor ≡ name_steps l.marked (below l.marked l.levels) l.levels l.name l.cursor) × (l.name.height ≤ l.levels)

abbrev pub decreases-name_steps-more : goal.decreases-name_steps-more
decreases-name_steps-more l = length l.cursor
