-- The reply to a message of commands: it fits the output, and its stores leave it at the front. Assumes nothing.
use Prim.Native.Nat.{ℕ, zero, suc, ◌+◌, ◌-◌, ◌*◌, ◌≤◌, ◌<◌}
use mathlib.Core.Path.{◌≡◌, refl, sym, ap, ◌∙◌}
use mathlib.Core.Bool.{true, cond}
use mathlib.Core.List.{List, []}
use native.Mathlib.Omega.{arith}
use lib.Dec.{eqb}
use lib.ListN.{length, drop, length-drop}
use lib.Seq.{sets, take-length}
use borrow.Author.Tests.{eq-eqb, ne_eqb}
use Rattle.laws.proofs.Stores.{sets_comm}
use Rattle.frame.specs.Limits.{header_end, response, keep_alive}
use Rattle.frame.specs.Header.{pdu_type, message_count}
use Rattle.frame.specs.Entry.{entry_size, entries_fill}
use Rattle.frame.specs.Decide.{keep_alive_fill, data_sound}
use Rattle.frame.specs.Scaffold.{SoundAt}
use Rattle.frame.proofs.Entries.{entry_at_lem, entries_first, least_command_lem}
use Rattle.frame.proofs.Headers.{sound_header}
use Rattle.layout.specs.Message.{head_bytes, message, at_front}
use Rattle.layout.proofs.Messages.{length_head, length_message, put_whole}
use Rattle.device.specs.State.{sent_at}
use Rattle.device.specs.declared.Device.{Device}
use Rattle.serve.specs.Serve.{last_of, responses_of}
use Rattle.serve.proofs.Serves.{responses_few}
use Rattle.serve.specs.Sound.{ruled, commands_of}

-- no more commands than a seventeenth of the bytes: 119 fit
entries_many : (n kind : ℕ) (t : List ℕ) → kind < 2 → entries_fill n kind t ≡ true → n * 17 ≤ length t
entries_many zero kind t k e = omega arith
entries_many (suc n) kind t k e =
    let p = entries_first n kind t e in
    let w = entry_at_lem kind t p.0 in
    let h = entries_many n kind (drop (entry_size kind t) t) k p.1 in
    omega (arith, length-drop (entry_size kind t) t, least_command_lem kind k, w.low, w.high, w.size)

module _ (m : List ℕ) (w : SoundAt m (length m)) where
  whole : data_sound (pdu_type m) (message_count m) (drop header_end m) ≡ true
  whole = rw (take-length m) at w.body

  pub beats : pdu_type m ≡ keep_alive → keep_alive_fill (drop header_end m) ≡ true
  unfolding data_sound
  beats h = rw (eq-eqb (pdu_type m) keep_alive h) at whole

  -- a message of commands
  pub fills : pdu_type m < 2 → entries_fill (message_count m) (pdu_type m) (drop header_end m) ≡ true
  unfolding data_sound
  fills h = rw (ne_eqb (pdu_type m) keep_alive (λ e. omega arith)) at whole

  pub few : pdu_type m < 2 → message_count m ≤ 119
  few h =
      omega (arith, entries_many (message_count m) (pdu_type m) (drop header_end m) h (fills h), length-drop header_end m, w.size, (sound_header m w.header).high)

-- the responses, and then the head before them
pub reply_stores : (count end : ℕ) (out body b : List ℕ) → end ≡ 10 + length body → 10 + length body ≤ length out
    → b ≡ sets (sets out 10 body) 0 (head_bytes response count (end - 1)) → b ≡ at_front (message response count body) out
reply_stores count end out body b e h q =
    let size = end - 1 in
    q ∙ sym (sets_comm (head_bytes response count size) body out 0 10 (omega (arith, length_head response count size)))
    ∙ put_whole response count size out body (omega arith) (omega arith)

module _ (d : Device) (n kind count : ℕ) (t : List ℕ) where
  pub commands_silent : kind ≡ 0 → commands_of d n kind count t ≡ ruled (last_of count d n kind t) []
  unfolding commands_of
  commands_silent e = rw (eq-eqb kind 0 e)

  pub commands_told : (kind ≡ 0 → ⊥) → commands_of d n kind count t ≡ ruled (sent_at (last_of count d n kind t) n) (message response count (responses_of count d n kind t))
  unfolding commands_of
  commands_told e = rw (ne_eqb kind 0 e)

  pub room : count ≤ 119 → 10 + length (responses_of count d n kind t) ≤ 2628
  room h = omega (arith, responses_few count d n kind t)

pub front_none : (out : List ℕ) → at_front [] out ≡ out
unfolding at_front
front_none out = refl

-- the responses were written and then the head, and the reply is something sent
module _ (d : Device) (n kind count : ℕ) (t : List ℕ) (k : kind ≡ 0 → ⊥) where
  abbrev told : List ℕ
  told = responses_of count d n kind t

  pub commands_replied : {x last : Device} {end : ℕ} (out : List ℕ) {b z : List ℕ} → count ≤ 119 → 10 + count * 22 ≤ length out
      → last ≡ last_of count d n kind t
      → end ≡ cond (eqb kind 0) 10 (10 + length told)
      → b ≡ cond (eqb kind 0) out (sets out 10 told)
      → x ≡ sent_at last n
      → z ≡ sets b 0 (head_bytes response count (end - 1))
      → (x ≡ (commands_of d n kind count t).device) × (end ≡ length (commands_of d n kind count t).reply) × (z ≡ at_front (commands_of d n kind count t).reply out)
  commands_replied {x} {last} {end} out {b} {z} few room ed ee eb ex ez =
      let f = ne_eqb kind 0 k in
      let en : end ≡ 10 + length told = rw f at ee in
      let bs : b ≡ sets out 10 told = rw f at eb in
      rw (commands_told d n kind count t k) (
        ex ∙ ap (λ (y : Device). sent_at y n) ed,
        omega (arith, length_message response count told),
        reply_stores count end out told z en (omega (arith, responses_few count d n kind t)) (ez ∙ ap (λ (y : List ℕ). sets y 0 (head_bytes response count (end - 1))) bs),
      )
