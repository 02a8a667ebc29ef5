-- For proofs: no rule is here.
use Rattle.std.specs.Prelude.{[], ◌∷◌, length}
use Rattle.device.specs.declared.Device.{Device}
use Rattle.stream.specs.Calls.{deliver, ask, Held}
use Rattle.stream.specs.Scaffold.{Answer, more, denied, gave}
use Rattle.answers.specs.Numbers.{delivery_numbers}
use Rattle.answers.specs.declared.Delivery.TheVariants as deliveries
use Rattle.endpoint.specs.Outcome.{Outcome, outcome}
use Rattle.promise.specs.Rulebook.{Given}
use Rattle.promise.specs.Calls.{HostCall, with_taken, record_with, area_with}

-- What a call is to give, where the machine over pieces comes to device d with h held and that answer.
unfoldable pub outcome_of : HostCall → Device → Held → Answer Given → Outcome
outcome_of (deliver n piece out) d h more = outcome (delivery_numbers (deliveries.More (length piece))) (record_with d h) (area_with h) out
outcome_of (deliver n piece out) d h (denied q) = outcome (q ∷ []) (record_with d h) (area_with h) out
outcome_of (deliver n piece out) d h (gave k o) = outcome (with_taken k o.answer) (record_with d h) (area_with h) o.output
outcome_of (ask a) d h more = outcome [] (record_with d h) (area_with h) []
outcome_of (ask a) d h (denied q) = outcome (q ∷ []) (record_with d h) (area_with h) []
outcome_of (ask a) d h (gave k o) = outcome o.answer (record_with d h) (area_with h) o.output
