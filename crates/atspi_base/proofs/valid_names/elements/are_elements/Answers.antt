use Rattle.std.proofs.Common.{false, refl, ◌∙◌, arith}
use Rattle.atspi_base.proofs.OfValidNames.ElementLemmas.{goes_on-are_elements}
use Rattle.atspi_base.specs.valid_names.inner.Walks.{separator_of}
use Rattle.atspi_base.proofs.OfValidNames.WalkLemmas.{going, came_on, came_to_end}
use Rattle.atspi_base.proofs.valid_names.elements.are_elements.Goals as goal

pub loop-byte-init : goal.loop-byte-init
loop-byte-init c = going false refl refl

pub loop-byte-preserved : goal.loop-byte-preserved
loop-byte-preserved c = rw (c.next_states-next.ensures, c.class_of.ensures) (came_on c.args.form c.args.bytes.now c.loop-byte.byte-index c.loop-byte.state (omega arith) c.loop-byte.invariant)

pub returns : goal.returns
returns c = came_to_end c.args.form c.args.bytes.now c.loop-byte.byte-index c.loop-byte.state (omega arith) c.loop-byte.invariant ∙ goes_on-are_elements c.args.form (separator_of c.args.form) c.args.bytes.now
