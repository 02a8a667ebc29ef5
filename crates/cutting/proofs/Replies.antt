-- A reply is at most twice as long as its message. Assumes nothing.
use Prim.Native.Nat.{ℕ, zero, suc, ◌*◌, ◌≤◌, ◌<◌}
use mathlib.Core.Path.{◌≡◌, refl, sym}
use mathlib.Core.Bool.{Bool, cond, true, false, true≢false}
use mathlib.Core.List.{List, []}
use native.Mathlib.Omega.{arith}
use lib.Dec.{ltb, eqb}
use lib.ListN.{length, drop, length-drop}
use lib.Seq.{length_front, length-take-le}
use borrow.Author.Tests.{ltb-true}
use Rattle.frame.specs.Limits.{header_end, notification, response, keep_alive}
use Rattle.frame.specs.Header.{pdu_type, message_count}
use Rattle.frame.specs.Entry.{entry_size, entries_fill}
use Rattle.frame.specs.Decide.{decide, taken, settled}
use Rattle.frame.specs.Scaffold.{SoundAt}
use Rattle.frame.specs.declared.Decision.{Decision}
use Rattle.frame.specs.declared.Decision.TheVariants.{Undecided, Faulty, Sound}
use Rattle.frame.proofs.Entries.{entry_at_lem, entries_first, least_command_lem}
use Rattle.frame.proofs.Sounds.{sound_at}
use Rattle.fields.specs.Fields.{heartbeat_of}
use Rattle.layout.specs.Message.{message, at_front}
use Rattle.layout.proofs.Messages.{length_message}
use Rattle.device.specs.State.{heard_at, sent_at}
use Rattle.device.specs.declared.Device.{Device}
use Rattle.replies.specs.Bytes.{least_output}
use Rattle.replies.proofs.Puts.{length_keep_alive}
use Rattle.serve.specs.Serve.{last_of, responses_of}
use Rattle.serve.specs.Sound.{Ruled, ruled, kept_alive, commands_of, sound_of}
use Rattle.serve.proofs.Serves.{responses_few}
use Rattle.serve.proofs.Replies.{fills}
use Rattle.feed.specs.Feed.{is_message, reply_length}
use Rattle.feed.proofs.Bounds.{reply_short}
use Rattle.promise.specs.Rulebook.{rule, message_by}
use Rattle.cutting.proofs.Offers.{ruling}

-- a command has 17 bytes at least
commands_many : (n kind : ℕ) (t : List ℕ) → kind < 2 → entries_fill n kind t ≡ true → n * 17 ≤ length t
commands_many zero kind t k e = omega arith
commands_many (suc n) kind t k e =
    let p = entries_first n kind t e in
    let w = entry_at_lem kind t p.0 in
    let h = commands_many n kind (drop (entry_size kind t) t) k p.1 in
    omega (arith, length-drop (entry_size kind t) t, least_command_lem kind k, w.low, w.high, w.size)

-- and its response 22 at most
reply_twice : (d : Device) (n : ℕ) (m : List ℕ) → SoundAt m (length m) → length (sound_of d n m).reply ≤ 2 * length m
unfolding sound_of kept_alive commands_of
reply_twice d n m w = go (eqb (pdu_type m) keep_alive) (ltb (pdu_type m) notification) refl (eqb (pdu_type m) 0)
  where
    go : (a b : Bool) → ltb (pdu_type m) notification ≡ b → (c : Bool)
        → length
        (cond {A = Ruled} a (kept_alive d n (heartbeat_of (drop header_end m)))
        (cond b
        (cond c (ruled (last_of (message_count m) (heard_at d n) n (pdu_type m) (drop header_end m)) [])
        (ruled (sent_at (last_of (message_count m) (heard_at d n) n (pdu_type m) (drop header_end m)) n)
        (message response (message_count m) (responses_of (message_count m) (heard_at d n) n (pdu_type m) (drop header_end m)))))
        (ruled (heard_at d n) []))
        ).reply ≤ 2 * length m
    go true b e c = omega (arith, length_keep_alive (heartbeat_of (drop header_end m)), w.low)
    go false true e true = omega arith
    go false true e false =
        let count = message_count m in
        let body = drop header_end m in
        let k = ltb-true (pdu_type m) 2 e in
        omega (
          arith,
          length_message response count (responses_of count (heard_at d n) n (pdu_type m) body),
          responses_few count (heard_at d n) n (pdu_type m) body,
          commands_many count (pdu_type m) body k (fills m w k),
          length-drop header_end m,
          w.low,
        )
    go false false e c = omega arith

-- what the rules answer to a whole message
pub record Answering (m out answer after : List ℕ) : Type 0 where
  pub twice : reply_length answer ≤ 2 * length m
  pub fits : reply_length answer ≤ length out
  pub wide : length after ≡ length out

front_wide : (m buf : List ℕ) → length m ≤ length buf → length (at_front m buf) ≡ length buf
unfolding at_front
front_wide m buf h = length_front buf m (length m) (sym (length-take-le (length m) buf h))

module _ (d : Device) (n : ℕ) (m out : List ℕ) (wide : least_output ≤ length out) where
  by_decision : (x : Decision) → decide m ≡ x → taken x ≡ length m → settled x ≡ true
      → let s = message_by x d n m out in
      Answering m out s.1.answer s.1.output
  unfolding message_by settled taken reply_length is_message
  by_decision Undecided e k u = absurd (true≢false (sym u))
  by_decision (Faulty f t) e k u = record { twice = omega arith; fits = omega arith; wide = refl }
  by_decision (Sound t) e k u =
      let w : SoundAt m (length m) = rw (← k) (sound_at m t e) in
      let short : length (sound_of d n m).reply ≤ length out = omega (arith, reply_short d n m w) in
      record { twice = reply_twice d n m w; fits = short; wide = front_wide (sound_of d n m).reply out short }

  pub answering : taken (decide m) ≡ length m → settled (decide m) ≡ true
      → let s = ruling d n m out in
      Answering m out s.1.answer s.1.output
  unfolding rule
  answering k u = by_decision (decide m) refl k u
