use Rattle.std.proofs.Common.{arith}
use Rattle.std.proofs.lemmas.Grind.{common_steps}
use Rattle.atspi_message.proofs.fields.Fields.set.Goals as goal

pub path-requires-clause-at : goal.path-requires-clause-at
path-requires-clause-at c = grind (arith, common_steps)

pub path-requires-clause-end : goal.path-requires-clause-end
path-requires-clause-end c = grind (arith, common_steps)

pub returns-in_err-path-in-Path-clause-read : goal.returns-in_err-path-in-Path-clause-read
returns-in_err-path-in-Path-clause-read c = grind (arith, common_steps)

pub returns-in_err-path-in-Path-clause-within : goal.returns-in_err-path-in-Path-clause-within
returns-in_err-path-in-Path-clause-within c = grind (arith, common_steps)

pub interface-requires-clause-at : goal.interface-requires-clause-at
interface-requires-clause-at c = grind (arith, common_steps)

pub interface-requires-clause-end : goal.interface-requires-clause-end
interface-requires-clause-end c = grind (arith, common_steps)

pub returns-in_err-interface-in-Interface-clause-read : goal.returns-in_err-interface-in-Interface-clause-read
returns-in_err-interface-in-Interface-clause-read c = grind (arith, common_steps)

pub returns-in_err-interface-in-Interface-clause-within : goal.returns-in_err-interface-in-Interface-clause-within
returns-in_err-interface-in-Interface-clause-within c = grind (arith, common_steps)

pub member-requires-clause-at : goal.member-requires-clause-at
member-requires-clause-at c = grind (arith, common_steps)

pub member-requires-clause-end : goal.member-requires-clause-end
member-requires-clause-end c = grind (arith, common_steps)

pub returns-in_err-member-in-Member-clause-read : goal.returns-in_err-member-in-Member-clause-read
returns-in_err-member-in-Member-clause-read c = grind (arith, common_steps)

pub returns-in_err-member-in-Member-clause-within : goal.returns-in_err-member-in-Member-clause-within
returns-in_err-member-in-Member-clause-within c = grind (arith, common_steps)

pub interface-requires-in-Error-clause-at : goal.interface-requires-in-Error-clause-at
interface-requires-in-Error-clause-at c = grind (arith, common_steps)

pub interface-requires-in-Error-clause-end : goal.interface-requires-in-Error-clause-end
interface-requires-in-Error-clause-end c = grind (arith, common_steps)

pub returns-in_err-error-in-Error-clause-read : goal.returns-in_err-error-in-Error-clause-read
returns-in_err-error-in-Error-clause-read c = grind (arith, common_steps)

pub returns-in_err-error-in-Error-clause-within : goal.returns-in_err-error-in-Error-clause-within
returns-in_err-error-in-Error-clause-within c = grind (arith, common_steps)

pub reply-requires-clause-at : goal.reply-requires-clause-at
reply-requires-clause-at c = grind (arith, common_steps)

pub reply-requires-clause-end : goal.reply-requires-clause-end
reply-requires-clause-end c = grind (arith, common_steps)

pub returns-in_err-reply-in-Reply-clause-read : goal.returns-in_err-reply-in-Reply-clause-read
returns-in_err-reply-in-Reply-clause-read c = grind (arith, common_steps)

pub returns-in_err-reply-in-Reply-clause-within : goal.returns-in_err-reply-in-Reply-clause-within
returns-in_err-reply-in-Reply-clause-within c = grind (arith, common_steps)

pub bus_name-requires-clause-at : goal.bus_name-requires-clause-at
bus_name-requires-clause-at c = grind (arith, common_steps)

pub bus_name-requires-clause-end : goal.bus_name-requires-clause-end
bus_name-requires-clause-end c = grind (arith, common_steps)

pub returns-in_err-destination-in-Destination-clause-read : goal.returns-in_err-destination-in-Destination-clause-read
returns-in_err-destination-in-Destination-clause-read c = grind (arith, common_steps)

pub returns-in_err-destination-in-Destination-clause-within : goal.returns-in_err-destination-in-Destination-clause-within
returns-in_err-destination-in-Destination-clause-within c = grind (arith, common_steps)

pub bus_name-requires-in-Sender-clause-at : goal.bus_name-requires-in-Sender-clause-at
bus_name-requires-in-Sender-clause-at c = grind (arith, common_steps)

pub bus_name-requires-in-Sender-clause-end : goal.bus_name-requires-in-Sender-clause-end
bus_name-requires-in-Sender-clause-end c = grind (arith, common_steps)

pub returns-in_err-sender-in-Sender-clause-read : goal.returns-in_err-sender-in-Sender-clause-read
returns-in_err-sender-in-Sender-clause-read c = grind (arith, common_steps)

pub returns-in_err-sender-in-Sender-clause-within : goal.returns-in_err-sender-in-Sender-clause-within
returns-in_err-sender-in-Sender-clause-within c = grind (arith, common_steps)

pub signature-requires-clause-at : goal.signature-requires-clause-at
signature-requires-clause-at c = grind (arith, common_steps)

pub signature-requires-clause-end : goal.signature-requires-clause-end
signature-requires-clause-end c = grind (arith, common_steps)

pub returns-in_err-signature-in-Signature-clause-read : goal.returns-in_err-signature-in-Signature-clause-read
returns-in_err-signature-in-Signature-clause-read c = grind (arith, common_steps)

pub returns-in_err-signature-in-Signature-clause-within : goal.returns-in_err-signature-in-Signature-clause-within
returns-in_err-signature-in-Signature-clause-within c = grind (arith, common_steps)

pub descriptors-requires-clause-at : goal.descriptors-requires-clause-at
descriptors-requires-clause-at c = grind (arith, common_steps)

pub descriptors-requires-clause-end : goal.descriptors-requires-clause-end
descriptors-requires-clause-end c = grind (arith, common_steps)

pub returns-in_err-next-in-Descriptors-clause-read : goal.returns-in_err-next-in-Descriptors-clause-read
returns-in_err-next-in-Descriptors-clause-read c = grind (arith, common_steps)

pub returns-in_err-next-in-Descriptors-clause-within : goal.returns-in_err-next-in-Descriptors-clause-within
returns-in_err-next-in-Descriptors-clause-within c = grind (arith, common_steps)

pub returns-in_ok-path-in-Path-clause-read : goal.returns-in_ok-path-in-Path-clause-read
returns-in_ok-path-in-Path-clause-read c = grind (arith, common_steps)

pub returns-in_ok-path-in-Path-clause-within : goal.returns-in_ok-path-in-Path-clause-within
returns-in_ok-path-in-Path-clause-within c = grind (arith, common_steps)

pub returns-in_ok-interface-in-Interface-clause-read : goal.returns-in_ok-interface-in-Interface-clause-read
returns-in_ok-interface-in-Interface-clause-read c = grind (arith, common_steps)

pub returns-in_ok-interface-in-Interface-clause-within : goal.returns-in_ok-interface-in-Interface-clause-within
returns-in_ok-interface-in-Interface-clause-within c = grind (arith, common_steps)

pub returns-in_ok-member-in-Member-clause-read : goal.returns-in_ok-member-in-Member-clause-read
returns-in_ok-member-in-Member-clause-read c = grind (arith, common_steps)

pub returns-in_ok-member-in-Member-clause-within : goal.returns-in_ok-member-in-Member-clause-within
returns-in_ok-member-in-Member-clause-within c = grind (arith, common_steps)

pub returns-in_ok-error-in-Error-clause-read : goal.returns-in_ok-error-in-Error-clause-read
returns-in_ok-error-in-Error-clause-read c = grind (arith, common_steps)

pub returns-in_ok-error-in-Error-clause-within : goal.returns-in_ok-error-in-Error-clause-within
returns-in_ok-error-in-Error-clause-within c = grind (arith, common_steps)

pub returns-in_ok-reply-in-Reply-clause-read : goal.returns-in_ok-reply-in-Reply-clause-read
returns-in_ok-reply-in-Reply-clause-read c = grind (arith, common_steps)

pub returns-in_ok-reply-in-Reply-clause-within : goal.returns-in_ok-reply-in-Reply-clause-within
returns-in_ok-reply-in-Reply-clause-within c = grind (arith, common_steps)

pub returns-in_ok-destination-in-Destination-clause-read : goal.returns-in_ok-destination-in-Destination-clause-read
returns-in_ok-destination-in-Destination-clause-read c = grind (arith, common_steps)

pub returns-in_ok-destination-in-Destination-clause-within : goal.returns-in_ok-destination-in-Destination-clause-within
returns-in_ok-destination-in-Destination-clause-within c = grind (arith, common_steps)

pub returns-in_ok-sender-in-Sender-clause-read : goal.returns-in_ok-sender-in-Sender-clause-read
returns-in_ok-sender-in-Sender-clause-read c = grind (arith, common_steps)

pub returns-in_ok-sender-in-Sender-clause-within : goal.returns-in_ok-sender-in-Sender-clause-within
returns-in_ok-sender-in-Sender-clause-within c = grind (arith, common_steps)

pub returns-in_ok-signature-in-Signature-clause-read : goal.returns-in_ok-signature-in-Signature-clause-read
returns-in_ok-signature-in-Signature-clause-read c = grind (arith, common_steps)

pub returns-in_ok-signature-in-Signature-clause-within : goal.returns-in_ok-signature-in-Signature-clause-within
returns-in_ok-signature-in-Signature-clause-within c = grind (arith, common_steps)

pub returns-in_ok-next-in-Descriptors-clause-read : goal.returns-in_ok-next-in-Descriptors-clause-read
returns-in_ok-next-in-Descriptors-clause-read c = grind (arith, common_steps)

pub returns-in_ok-next-in-Descriptors-clause-within : goal.returns-in_ok-next-in-Descriptors-clause-within
returns-in_ok-next-in-Descriptors-clause-within c = grind (arith, common_steps)
