use Rattle.std.proofs.lemmas.Grind.{common_steps}
use Rattle.std.proofs.Common.{[], ◌∷◌, arith}
use Rattle.atspi_script.proofs.TextLemmas.{front_kept, front_spaced}
use Rattle.atspi_script.proofs.values.+put.Goals as goal

-- what stood before stands there still where a value in a bracket is cut short

pub put_elements-returns-in_err-put_element-2-clause-front : goal.put_elements-returns-in_err-put_element-2-clause-front
put_elements-returns-in_err-put_element-2-clause-front t c =
    front_spaced c.args.out.now c.loop-item.out c.push.new.self c.put_element-in-Some-next.new.out c.loop-item.invariant.0 c.in_ok-push.ensures.ok c.put_element-in-Some-next.ensures.front

pub put_fields-returns-in_err-put-2-clause-front : goal.put_fields-returns-in_err-put-2-clause-front
put_fields-returns-in_err-put-2-clause-front t c =
    front_spaced c.args.out.now c.loop-item.out c.push.new.self c.put-in-Some-next.new.out c.loop-item.invariant.0 c.in_ok-push.ensures.ok c.put-in-Some-next.ensures.front

pub put_entries-returns-in_err-put_entry-2-clause-front : goal.put_entries-returns-in_err-put_entry-2-clause-front
put_entries-returns-in_err-put_entry-2-clause-front t c =
    front_spaced c.args.out.now c.loop-entry.out c.push.new.self c.put_entry-in-Some-next.new.out c.loop-entry.invariant.0 c.in_ok-push.ensures.ok c.put_entry-in-Some-next.ensures.front

pub put_entry-returns-in_err-put-clause-front : goal.put_entry-returns-in_err-put-clause-front
put_entry-returns-in_err-put-clause-front t c = front_kept c.args.out.now (123 ∷ []) c.push.new.self c.put.new.out c.in_ok-push.ensures.ok c.put.ensures.front

pub put_entry-returns-in_err-put-2-clause-front : goal.put_entry-returns-in_err-put-2-clause-front
put_entry-returns-in_err-put-2-clause-front t c =
    front_spaced c.args.out.now c.put.new.out c.push-2.new.self c.put-2.new.out (front_kept c.args.out.now (123 ∷ []) c.push.new.self c.put.new.out c.in_ok-push.ensures.ok c.in_ok-put.ensures.front) c.in_ok-push-2.ensures.ok c.put-2.ensures.front

pub put_variant-returns-in_err-put-clause-front : goal.put_variant-returns-in_err-put-clause-front
put_variant-returns-in_err-put-clause-front t c =
    front_kept c.args.out.now (60 ∷ []) c.push.new.self c.put.new.out c.in_ok-push.ensures.ok
    (front_kept c.push.new.self c.codes.result.now c.extend.new.self c.put.new.out c.in_ok-extend.ensures.ok
    (front_kept c.extend.new.self (32 ∷ []) c.push-2.new.self c.put.new.out c.in_ok-push-2.ensures.ok c.put.ensures.front))

pub put-returns-in-Byte-clause-front : goal.put-returns-in-Byte-clause-front
put-returns-in-Byte-clause-front t c = grind (arith, common_steps)

pub put-returns-in-I16-clause-front : goal.put-returns-in-I16-clause-front
put-returns-in-I16-clause-front t c = grind (arith, common_steps)

pub put-returns-in-I32-clause-front : goal.put-returns-in-I32-clause-front
put-returns-in-I32-clause-front t c = grind (arith, common_steps)

pub put-returns-in-I64-clause-front : goal.put-returns-in-I64-clause-front
put-returns-in-I64-clause-front t c = grind (arith, common_steps)

pub put-returns-in-U16-clause-front : goal.put-returns-in-U16-clause-front
put-returns-in-U16-clause-front t c = grind (arith, common_steps)

pub put-returns-in-U32-clause-front : goal.put-returns-in-U32-clause-front
put-returns-in-U32-clause-front t c = grind (arith, common_steps)

pub put-returns-in-U64-clause-front : goal.put-returns-in-U64-clause-front
put-returns-in-U64-clause-front t c = grind (arith, common_steps)

pub put_array-returns-clause-front : goal.put_array-returns-clause-front
put_array-returns-clause-front t c = grind (arith, common_steps)

pub put_array-returns-clause-ok : goal.put_array-returns-clause-ok
put_array-returns-clause-ok t c = grind (arith, common_steps)

pub put_array-returns-in_err-push-clause-front : goal.put_array-returns-in_err-push-clause-front
put_array-returns-in_err-push-clause-front t c = grind (arith, common_steps)

pub put_dictionary-returns-clause-front : goal.put_dictionary-returns-clause-front
put_dictionary-returns-clause-front t c = grind (arith, common_steps)

pub put_dictionary-returns-clause-ok : goal.put_dictionary-returns-clause-ok
put_dictionary-returns-clause-ok t c = grind (arith, common_steps)

pub put_elements-loop-item-init : goal.put_elements-loop-item-init
put_elements-loop-item-init t c = grind (arith, common_steps)

pub put_elements-loop-item-preserved : goal.put_elements-loop-item-preserved
put_elements-loop-item-preserved t c = grind (arith, common_steps)

pub put_entries-loop-entry-init : goal.put_entries-loop-entry-init
put_entries-loop-entry-init t c = grind (arith, common_steps)

pub put_entries-loop-entry-preserved : goal.put_entries-loop-entry-preserved
put_entries-loop-entry-preserved t c = grind (arith, common_steps)

pub put_entries-returns-in_default-clause-front : goal.put_entries-returns-in_default-clause-front
put_entries-returns-in_default-clause-front t c = grind (arith, common_steps)

pub put_entry-returns-clause-front : goal.put_entry-returns-clause-front
put_entry-returns-clause-front t c = grind (arith, common_steps)

pub put_entry-returns-clause-ok : goal.put_entry-returns-clause-ok
put_entry-returns-clause-ok t c = grind (arith, common_steps)

pub put_entry-returns-in_err-push-clause-front : goal.put_entry-returns-in_err-push-clause-front
put_entry-returns-in_err-push-clause-front t c = grind (arith, common_steps)

pub put_fields-loop-item-init : goal.put_fields-loop-item-init
put_fields-loop-item-init t c = grind (arith, common_steps)

pub put_fields-loop-item-preserved : goal.put_fields-loop-item-preserved
put_fields-loop-item-preserved t c = grind (arith, common_steps)

pub put_fields-returns-in_default-clause-front : goal.put_fields-returns-in_default-clause-front
put_fields-returns-in_default-clause-front t c = grind (arith, common_steps)

pub put_struct-returns-clause-front : goal.put_struct-returns-clause-front
put_struct-returns-clause-front t c = grind (arith, common_steps)

pub put_struct-returns-clause-ok : goal.put_struct-returns-clause-ok
put_struct-returns-clause-ok t c = grind (arith, common_steps)

pub put_struct-returns-in_err-push-clause-front : goal.put_struct-returns-in_err-push-clause-front
put_struct-returns-in_err-push-clause-front t c = grind (arith, common_steps)

pub put_variant-returns-clause-front : goal.put_variant-returns-clause-front
put_variant-returns-clause-front t c = grind (arith, common_steps)

pub put_variant-returns-clause-ok : goal.put_variant-returns-clause-ok
put_variant-returns-clause-ok t c = grind (arith, common_steps)
