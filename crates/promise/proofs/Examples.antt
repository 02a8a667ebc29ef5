-- ExamplesWorked, and ResetWorked and ContextsWorked with it: the tables are computed by the same definitions. Assumes nothing.
use mathlib.Core.Path.{refl}
use Rattle.octets.specs.Numbers.{be16_at, be32_at, bytes16, bytes32}
use Rattle.octets.specs.Zeros.{zeros}
use Rattle.heartbeat.specs.Beat.{form_of, value_of, beat_of}
use Rattle.frame.specs.Header.{count_fault, fields_fault, header_fault}
use Rattle.frame.specs.Entry.{least_entry, context_count, parameter_offset, is_context_bad, count_place, least_count, count_fits, entry_fits, entry_size, entries_fill}
use Rattle.frame.specs.Decide.{keep_alive_fill, data_sound, decide_data, decide_header, decide}
use Rattle.fields.specs.Place.{entries_from, entry_bytes, parameters_of, context_of}
use Rattle.fields.specs.Fields.{method_at, command_of, notification_of, response_of, heartbeat_of}
use Rattle.reader.specs.Numbers.{heartbeat_numbers, command_numbers, notification_numbers, response_numbers}
use Rattle.reader.specs.Read.{message_of, read_by, read_of}
use Rattle.reader.specs.Entry.{has_entry, fields_of, entry_in, entry_by, part_in, part_by, part_of}
use Rattle.reader.specs.Context.{context_in, context_by, entry_context}
use Rattle.reader.specs.Entry as entries
use Rattle.layout.specs.Message.{head_bytes, message, beat_bytes, at_front}
use Rattle.octets.specs.Same.{same_bytes}
use Rattle.dotted.specs.Text.{is_dot, is_digit, is_leading, digit_value, part_if, one_digit, two_digits, three_digits, text_part, onto, text_fields, four_parts, of_parts, parts_of, dotted_of}
use Rattle.mechanism.specs.Arguments.{key_in, text_in, port_in, is_misfit, is_multicast, is_group, is_text_taken, address_of, is_untaken, armed_by}
use Rattle.mechanism.specs.Datagram.{resets}
use Rattle.connection.specs.State.{live_at, is_not_open, is_due}
use Rattle.connection.specs.Supervision.{closes_at, quiet_after, connection_ticked, heard_of, sent_of, set_beat, beating_of}
use Rattle.subscription.specs.State.{is_unused, is_waiting, is_twin, marked_of, swept_of}
use Rattle.subscription.specs.State as subscriptions
use Rattle.objects.specs.Methods.{place_of, is_manager, is_object, is_telling, is_locking, is_muting, is_subscribing, has_method, is_mute}
use Rattle.objects.specs.Tests.{is_forbidden, count_of, length_of, is_length_bad, is_pair_bad, is_malformed, context_given, is_mute_value, is_add_bad, is_value_bad, first_status}
use Rattle.objects.specs.Answers.{class_of, identification_of, reply_of, failed_of, answer_with}
use Rattle.subscription.specs.Arguments.{context_held, subscription_from, is_strange, is_emitter_bad}
use Rattle.holders.specs.Holders.{owner_of, is_other, holder_obeys, swept_holder}
use Rattle.replies.specs.Bytes.{response_bytes, context_sent, subscriber_bytes, change_bytes, notification_entry, notification_bytes, keep_alive_bytes}
use Rattle.device.specs.State.{fresh_of, open_of, sweep_of, close_of, heard_at, sent_at, told_at, beating_at}
use Rattle.device.specs.Time.{tick_step}
use Rattle.device.specs.Run.{holder_at, mute_at, is_held_by_other, is_subscribed, is_out_of_turn, is_full, later_status, status_of, muted_of, done_of, answer_of, ran_by, run_of}
use Rattle.serve.specs.Serve.{ran_with, ran_first, last_of, response_to, responses_of}
use Rattle.serve.specs.Sound.{commands_of, kept_alive, sound_of}
use Rattle.taking.specs.Dispatch.{notified_of, notifying, reminding, taken_by}
use Rattle.promise.specs.Rulebook.{message_by, open_by, close_by, take_by, reset_by, rule}
use Rattle.promise.specs.Rulebook as rules
use Rattle.promise.specs.Examples.{ExamplesWorked}
use Rattle.promise.specs.ResetExamples.{ResetWorked}
use Rattle.promise.specs.ContextExamples.{ContextsWorked}

pub worked : ExamplesWorked × ResetWorked × ContextsWorked
unfolding same_bytes is_dot is_digit is_leading digit_value part_if one_digit two_digits three_digits text_part onto text_fields four_parts of_parts parts_of dotted_of key_in text_in port_in is_misfit is_multicast is_group is_text_taken address_of is_untaken armed_by resets be16_at be32_at bytes16 bytes32 zeros form_of value_of beat_of count_fault fields_fault header_fault least_entry context_count parameter_offset is_context_bad count_place least_count count_fits entry_fits entry_size entries_fill keep_alive_fill data_sound decide_data decide_header decide entries_from entry_bytes parameters_of method_at command_of notification_of response_of heartbeat_of heartbeat_numbers command_numbers notification_numbers response_numbers message_of read_by read_of has_entry fields_of entry_in entry_by entries.entry_of part_in part_by part_of context_of context_in context_by entry_context head_bytes message at_front live_at is_not_open is_due closes_at quiet_after connection_ticked heard_of sent_of set_beat beating_of is_mute is_unused is_waiting is_twin marked_of subscriptions.told_of swept_of place_of is_manager is_object is_telling is_locking is_muting is_subscribing has_method is_forbidden count_of length_of is_length_bad is_pair_bad is_malformed context_given is_add_bad context_held subscription_from is_strange is_emitter_bad is_mute_value is_value_bad class_of identification_of reply_of failed_of answer_with owner_of is_other holder_obeys swept_holder response_bytes context_sent subscriber_bytes change_bytes notification_entry notification_bytes keep_alive_bytes fresh_of open_of sweep_of close_of heard_at sent_at told_at beating_at tick_step holder_at mute_at is_held_by_other is_subscribed is_out_of_turn is_full first_status later_status status_of muted_of done_of answer_of ran_by run_of ran_with ran_first last_of response_to responses_of commands_of kept_alive sound_of notified_of notifying reminding taken_by message_by open_by close_by rules.tick_by take_by reset_by rule beat_bytes
worked = (refl, refl, refl)
