-- R74. Whose key counts, and who learns of it.
use Rattle.std.specs.Prelude.{ℕ, zero, suc, ◌≡◌, Bool, cond, true, not, ◌&&◌, List, [], ◌∷◌, map, take, drop, eqb, ltb}
use Rattle.frame.specs.Limits.{header_end, notification}
use Rattle.frame.specs.Header.{pdu_type, message_count}
use Rattle.frame.specs.Entry.{entry_size}
use Rattle.frame.specs.Decide.{decide}
use Rattle.frame.specs.declared.Decision.{Decision}
use Rattle.frame.specs.declared.Decision.TheVariants.{Undecided, Faulty, Sound}
use Rattle.fields.specs.Place.{parameters_of}
use Rattle.fields.specs.Fields.{command_of}
use Rattle.fields.specs.declared.CommandFields.{CommandFields}
use Rattle.mechanism.specs.State.{disarmed, with_key}
use Rattle.mechanism.specs.Arguments.{is_untaken, armed_by}
use Rattle.mechanism.specs.Datagram.{resets}
use Rattle.mechanism.specs.declared.Mechanism.{Mechanism}
use Rattle.objects.specs.Methods.{method_number, device_manager, reset_key_method}
use Rattle.objects.specs.Tests.{is_malformed}
use Rattle.device.specs.Run.{status_of}
use Rattle.device.specs.Run as commands
use Rattle.device.specs.Setters.{with_mechanism}
use Rattle.device.specs.declared.Device.{Device}
use Rattle.stream.specs.Calls.{deliver, ask, handed, asked, AllBytes}
use Rattle.endpoint.specs.State.{state_of}
use Rattle.endpoint.specs.Outcome.{Outcome}
use Rattle.endpoint.specs.declared.Record.{Record}
use Rattle.promise.specs.Rulebook.{opening, closing, ticking, taking, datagram, Asked, rule}
use Rattle.promise.specs.Calls.{HostCall, call_of, run_calls}
use Rattle.promise.specs.Kept.{held_in, Kept}
use Rattle.promise.specs.Whole.{wholes_of}

-- ---- the latest key

-- R74. 3.14 of object 1 whose arguments are taken.
unfoldable pub is_arming : ℕ → ℕ → ℕ → List ℕ → Bool
is_arming target m count part =
    eqb target device_manager && (eqb m reset_key_method && (not (is_malformed m count part) && not (is_untaken part)))

-- R74. The mechanism after a command.
unfoldable pub keyed_by : Mechanism → ℕ → ℕ → ℕ → List ℕ → Mechanism
keyed_by k target m count part = cond (is_arming target m count part) (armed_by part) k

-- R74. The mechanism after the command of these fields and this part.
unfoldable pub keyed_with : Mechanism → CommandFields → List ℕ → Mechanism
keyed_with k c part = keyed_by k c.target (method_number c.method.level c.method.index) c.count part

-- R74. The mechanism after so many entries of a message.
unfoldable pub keyed_over : ℕ → Mechanism → ℕ → List ℕ → Mechanism
keyed_over zero k kind t = k
keyed_over (suc j) k kind t =
    keyed_over j (keyed_with k (command_of (take (entry_size kind t) t)) (parameters_of kind (take (entry_size kind t) t))) kind
    (drop (entry_size kind t) t)

-- R74. The mechanism after a sound message: commands alone touch it.
unfoldable pub keyed_in : Mechanism → List ℕ → Mechanism
keyed_in k m = cond (ltb (pdu_type m) notification) (keyed_over (message_count m) k (pdu_type m) (drop header_end m)) k

-- R74. The mechanism after a whole message, by what it decides.
unfoldable pub keyed_message : Decision → Mechanism → List ℕ → Mechanism
keyed_message Undecided k m = k
keyed_message (Faulty fault t) k m = k
keyed_message (Sound t) k m = keyed_in k m

-- R74. The mechanism after a call of the rules.
unfoldable pub latest : Mechanism → Asked → Mechanism
latest k (handed n m out) = keyed_message (decide m) k m
latest k (asked opening) = k
latest k (asked (closing n)) = k
latest k (asked (ticking reading)) = k
latest k (asked (taking out)) = k
latest k (asked (datagram g)) = cond (resets k g) disarmed k

-- R74. The mechanism after calls one after another.
unfoldable pub latest_over : Mechanism → List Asked → Mechanism
latest_over k [] = k
latest_over k (w ∷ ws) = latest_over (latest k w) ws

-- Theorem. Of all calls only a 3.14 with status 0 and a reset change the mechanism; the last one counts.
pub record LatestKeyCounts : Type 0 where
  -- a command arms exactly where it is 3.14 of object 1 and gets status 0
  pub arming : (d : Device) (n target m count : ℕ) (part : List ℕ)
      → is_arming target m count part ≡ (eqb target device_manager && (eqb m reset_key_method && eqb (status_of d n target m count part) 0))
  -- then key, address and port are those of its arguments, whatever they were; any other command leaves them
  pub command : (d : Device) (n target m count : ℕ) (part : List ℕ)
      → (commands.run_of d n target m count part).device.mechanism ≡ keyed_by d.mechanism target m count part
  -- a whole call: commands and a reset change the mechanism, and nothing else does
  pub whole : (d : Device) (w : Asked) → (rule d w).0.mechanism ≡ latest d.mechanism w
  -- any list of calls, from any record and area that refusals 1 and 2 let pass: the mechanism is that of the whole calls, in order
  pub calls : (r : Record) (area : List ℕ) (cs : List HostCall) → Kept r area → AllBytes cs
      → (run_calls r area cs).0.0.device.mechanism
      ≡ latest_over r.device.mechanism (wholes_of r.device (held_in r area) cs)

-- ---- the key stays inside

-- R70. A record with another key.
abbrev pub rekeyed : Record → List ℕ → Record
rekeyed r key = state_of (with_mechanism r.device (with_key r.device.mechanism key)) r.held

-- R70. Two armed records that are alike but for their keys.
pub record AlikeButKey (r s : Record) : Type 0 where
  pub armed : r.device.mechanism.armed ≡ true
  pub alike : s ≡ rekeyed r s.device.mechanism.key

-- R68. What is seen of a call: its answer, and each byte of the area and the output.
pub record Seen : Type 0 where
  pub answer : List ℕ
  pub area : List ℕ
  pub output : List ℕ

-- R68. What is seen of an outcome.
abbrev pub seen : Outcome → Seen
seen o = record { answer = o.answer; area = o.area; output = o.output }

-- R75. Neither record is reset by the call: it is no datagram, or one that is neither's key.
unfoldable pub is_no_reset : Record → Record → HostCall → Bool
is_no_reset r s (deliver n piece out) = true
is_no_reset r s (ask opening) = true
is_no_reset r s (ask (closing n)) = true
is_no_reset r s (ask (ticking reading)) = true
is_no_reset r s (ask (taking out)) = true
is_no_reset r s (ask (datagram g)) = not (resets r.device.mechanism g) && not (resets s.device.mechanism g)

-- R75. Nor by any of these calls, made on each record and its area.
unfoldable pub no_reset : Record → List ℕ → Record → List ℕ → List HostCall → Bool
no_reset r x s y [] = true
no_reset r x s y (c ∷ cs) =
    is_no_reset r s c && no_reset (call_of r x c).state (call_of r x c).area (call_of s y c).state (call_of s y c).area cs

-- Theorem. Until a reset comes, nothing that is seen of any calls tells one key from another.
pub record KeyStaysInside : Type 0 where
  -- every call, an arming and a wrong datagram too: nothing that is seen tells the keys apart, and the records are again alike but for them
  pub call : (r s : Record) (area : List ℕ) (c : HostCall) → AlikeButKey r s → is_no_reset r s c ≡ true
      → (seen (call_of r area c) ≡ seen (call_of s area c)) × AlikeButKey (call_of r area c).state (call_of s area c).state
  -- so for any list of calls, wrong guesses of the key among them: until a reset comes, nothing tells which of the two keys it is
  pub calls : (r s : Record) (area : List ℕ) (cs : List HostCall) → AlikeButKey r s → no_reset r area s area cs ≡ true
      → (map seen (run_calls r area cs).1 ≡ map seen (run_calls s area cs).1)
      × AlikeButKey (run_calls r area cs).0.0 (run_calls s area cs).0.0
