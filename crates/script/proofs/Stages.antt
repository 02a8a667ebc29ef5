-- Laws of a script's calls and of the loop over them. Assumes nothing.
use Prim.Native.Nat.{ℕ, zero, suc, ◌+◌, ◌-◌, ◌≤◌, ◌<◌}
use mathlib.Core.Path.{◌≡◌, refl, sym, ap, ◌∙◌}
use mathlib.Core.List.{List, []}
use native.Mathlib.Omega.{arith}
use native.Mathlib.Nat.{not-suc-le-zero}
use borrow.Author.Tests.{le-leb, lt-leb, lt-ltb, le-ltb, ne_eqb}
use lib.ListN.{length, get_or, take, drop, length-drop}
use lib.Seq.{length-take-le, take_all}
use Rattle.octets.specs.Numbers.{be32_at}
use Rattle.stream.specs.Calls.{deliver, ask}
use Rattle.endpoint.specs.Outcome.{outcome}
use Rattle.endpoint.specs.Calls.{open_call, close_call, tick_call}
use Rattle.endpoint.specs.Deliver.{deliver_call}
use Rattle.endpoint.specs.Take.{take_call}
use Rattle.reset.specs.Datagram.{datagram_call}
use Rattle.endpoint.specs.declared.Record.{Record}
use Rattle.promise.specs.Rulebook.{opening, closing, ticking, taking, datagram}
use Rattle.promise.specs.Calls.{call_of, run_calls}
use Rattle.script.specs.declared.Call.{Call}
use Rattle.script.specs.declared.Call.TheVariants.{Open, Close, Tick, Take}
use Rattle.script.specs.Script.{Stage, stage, output_after, stage_of, sent_by, call_by, call_lent, call_size, PieceIs, FirstCall, first_size, call_in, behind, calls_from, calls_in, last_output, last_answer, end_of, script_of}
use Rattle.answers.specs.Numbers.{numbers_with, numbers_of}
use Rattle.answers.specs.declared.Numbers.{Numbers}

-- ---- each kind of call, from the outcome that its contract gives

module _ (s : Record) (m : Numbers) (answer : List ℕ) (named : m ≡ numbers_of answer) (r : Record) (area x output y : List ℕ) where
  pub open_stage : outcome answer s [] [] ≡ open_call r → stage s area output m ≡ stage_of (ask opening) r area output
  unfolding stage_of call_of output_after
  open_stage e = rw (← e) (ap (stage s area output) named)

  pub close_stage : (n : ℕ) → outcome answer s x [] ≡ close_call r area n → stage s x output m ≡ stage_of (ask (closing n)) r area output
  unfolding stage_of call_of output_after
  close_stage n e = rw (← e) (ap (stage s x output) named)

  pub tick_stage : (reading : ℕ) → outcome answer s x [] ≡ tick_call r area reading → stage s x output m ≡ stage_of (ask (ticking reading)) r area output
  unfolding stage_of call_of output_after
  tick_stage reading e = rw (← e) (ap (stage s x output) named)

  pub take_stage : outcome answer s [] y ≡ take_call r output → stage s area y m ≡ stage_of (ask (taking output)) r area output
  unfolding stage_of call_of output_after
  take_stage e = rw (← e) (ap (stage s area y) named)

  pub datagram_stage : (piece : List ℕ) → outcome answer s x [] ≡ datagram_call r area piece
      → stage s x output m ≡ stage_of (ask (datagram piece)) r area output
  unfolding stage_of call_of output_after
  datagram_stage piece e = rw (← e) (ap (stage s x output) named)

  pub deliver_stage : (n : ℕ) (piece : List ℕ) → outcome answer s x y ≡ deliver_call r area n piece output
      → stage s x y m ≡ stage_of (deliver n piece output) r area output
  unfolding stage_of call_of output_after
  deliver_stage n piece e = rw (← e) (ap (stage s x y) named)

-- ---- how a call is read

module _ (kind n value : ℕ) (piece output : List ℕ) where
  pub is_open : kind ≡ 0 → call_by kind n value piece output ≡ ask opening
  unfolding call_by
  is_open e = rw e refl

  pub is_close : kind ≡ 1 → call_by kind n value piece output ≡ ask (closing n)
  unfolding call_by
  is_close e = rw e refl

  pub is_tick : kind ≡ 2 → call_by kind n value piece output ≡ ask (ticking value)
  unfolding call_by
  is_tick e = rw e refl

  pub is_take : kind ≡ 3 → call_by kind n value piece output ≡ ask (taking output)
  unfolding call_by
  is_take e = rw e refl

  pub is_sent : 3 < kind → call_by kind n value piece output ≡ sent_by kind n piece output
  unfolding call_by
  is_sent h =
      simp (ne_eqb kind 0 (omega arith), ne_eqb kind 1 (omega arith), ne_eqb kind 2 (omega arith), ne_eqb kind 3 (omega arith))

module _ (kind n : ℕ) (piece output : List ℕ) where
  pub is_datagram : kind ≡ 4 → sent_by kind n piece output ≡ ask (datagram piece)
  unfolding sent_by
  is_datagram e = rw e refl

  pub is_deliver : (kind ≡ 4 → ⊥) → sent_by kind n piece output ≡ deliver n piece output
  unfolding sent_by
  is_deliver h = simp (ne_eqb kind 4 h)

six : (n : ℕ) → n ≡ 6 + n - 6
six n = omega arith

-- the piece behind the first six bytes, of a kind that has one
module _ (s : List ℕ) (l : 6 ≤ length s) (h : 3 < get_or s 0 0) where
  piece_size : (m : ℕ) → m ≡ first_size s → 6 ≤ m → m ≤ length s → (piece : List ℕ) → piece ≡ take (m - 6) (drop 6 s) → PieceIs s piece
  piece_size m e i j piece p =
      record {
        bytes = rw (← e) p;
        size = rw (← e) (omega (arith, ap length p, length-take-le (m - 6) (drop 6 s) (omega (arith, length-drop 6 s))));
        within = rw (← e) j;
      }

  pub piece_all : length s - 6 < be32_at s 2 → PieceIs s (take (length s - 6) (drop 6 s))
  unfolding first_size
  piece_all k =
      piece_size (length s) (simp (lt-leb (get_or s 0 0) 3 h, lt-ltb (length s) (6 + be32_at s 2) (omega arith))) l (omega arith) _ refl

  pub piece_asked : (n : ℕ) → n ≡ be32_at s 2 → n ≤ length s - 6 → PieceIs s (take n (take (length s - 6) (drop 6 s)))
  unfolding first_size
  piece_asked n e k =
      rw (take_all (length s - 6) (drop 6 s) (omega (arith, length-drop 6 s)))
      (piece_size (6 + n) (rw e (simp (lt-leb (get_or s 0 0) 3 h, le-ltb (length s) (6 + be32_at s 2) (omega arith)))) (omega arith) (omega arith) _ (ap (λ (m : ℕ). take m (drop 6 s)) (six n)))

-- the first call, by its kind
module _ (s : List ℕ) (l : 6 ≤ length s) where
  head_alone : get_or s 0 0 ≤ 3 → 6 ≡ first_size s
  unfolding first_size
  head_alone h = simp (le-leb (get_or s 0 0) 3 h)

  alone : (c : Call) → get_or s 0 0 ≤ 3 → call_size c ≡ 6 → ((output : List ℕ) → call_lent c output ≡ call_in s output) → FirstCall s c
  alone c h z e = let w = head_alone h in record { call = e; size = z ∙ w; some = omega arith; within = omega arith }

  pub first_open : get_or s 0 0 ≡ 0 → FirstCall s Open
  unfolding call_in
  first_open e = alone Open (omega arith) refl (λ o. sym (is_open (get_or s 0 0) _ _ _ o e))

  pub first_close : (n : ℕ) → get_or s 0 0 ≡ 1 → n ≡ get_or s 1 0 → FirstCall s (Close n)
  unfolding call_in
  first_close n e m = alone (Close n) (omega arith) refl (λ o. rw m (sym (is_close (get_or s 0 0) _ _ _ o e)))

  pub first_tick : (v : ℕ) → get_or s 0 0 ≡ 2 → v ≡ be32_at s 2 → FirstCall s (Tick v)
  unfolding call_in
  first_tick v e m = alone (Tick v) (omega arith) refl (λ o. rw m (sym (is_tick (get_or s 0 0) _ _ _ o e)))

  pub first_take : get_or s 0 0 ≡ 3 → FirstCall s Take
  unfolding call_in
  first_take e = alone Take (omega arith) refl (λ o. sym (is_take (get_or s 0 0) _ _ _ o e))

  pub first_sent : (c : Call) (piece : List ℕ) → 3 < get_or s 0 0 → PieceIs s piece → call_size c ≡ 6 + length piece
      → ((output : List ℕ) → call_lent c output ≡ sent_by (get_or s 0 0) (get_or s 1 0) piece output) → FirstCall s c
  unfolding call_in
  first_sent c piece h p z e =
      record {
        call = λ o. e o ∙ rw p.bytes (sym (is_sent (get_or s 0 0) _ _ _ o h));
        size = z ∙ p.size;
        some = omega (arith, p.size);
        within = p.within;
      }

-- ---- the loop: last stands where the script's first calls left it, t is what is left

-- a script's end, with at most so many calls left
unfoldable pub end_from : ℕ → Record → List ℕ → List ℕ → List ℕ → Numbers → Stage
end_from k r area s output a = end_of (calls_from k r area s output) r area output a

end_none : (k : ℕ) (r : Record) (area s output : List ℕ) (a : Numbers) → length s < 6 → end_from k r area s output a ≡ stage r area output a
unfolding end_from end_of calls_from run_calls last_output last_answer
end_none zero r area s output a h = refl
end_none (suc k) r area s output a h = rw (lt-ltb (length s) 6 h) refl

end_more : (k : ℕ) (r : Record) (area s output : List ℕ) (a : Numbers) → 6 ≤ length s
    → end_from (suc k) r area s output a
    ≡ end_from k (stage_of (call_in s output) r area output).state (stage_of (call_in s output) r area output).area (behind s) (stage_of (call_in s output) r area output).output (stage_of (call_in s output) r area output).answer
unfolding end_from end_of calls_from run_calls last_output last_answer stage_of
end_more k r area s output a h = rw (le-ltb (length s) 6 h) refl

pub record Playing (r₀ : Record) (area₀ script output₀ : List ℕ) (area output : List ℕ) (r : Record) (a : Numbers) (t : List ℕ) : Type 0 where
  pub left : ℕ
  pub enough : length t ≤ left
  pub rest : script_of r₀ area₀ script output₀ ≡ end_from left r area t output a
  pub long : length area ≡ length area₀
  pub wide : length output ≡ length output₀

pub playing_none : (r : Record) (area script output : List ℕ) → Playing r area script output area output r (numbers_with 0 0 0 0) script
unfolding script_of calls_in end_from numbers_of
playing_none r area script output = record { left = length script; enough = omega arith; rest = refl; long = refl; wide = refl }

module _ (r₀ : Record) (area₀ script output₀ area output : List ℕ) (r : Record) (a : Numbers) (t : List ℕ)
    (w : Playing r₀ area₀ script output₀ area output r a t)
  where
    pub playing_more : (s : Record) (x y : List ℕ) (b : Numbers) → 6 ≤ length t → 6 ≤ first_size t → length x ≡ length area → length y ≡ length output
        → stage s x y b ≡ stage_of (call_in t output) r area output → Playing r₀ area₀ script output₀ x y s b (drop (first_size t) t)
    unfolding behind
    playing_more s x y b h f6 lx ly e = go w.left w.enough w.rest
      where
        go : (k : ℕ) → length t ≤ k → script_of r₀ area₀ script output₀ ≡ end_from k r area t output a → Playing r₀ area₀ script output₀ x y s b (drop (first_size t) t)
        go zero f q = absurd (not-suc-le-zero {n = 5} (omega arith))
        go (suc k) f q =
            record {
              left = k;
              enough = omega (arith, length-drop (first_size t) t);
              rest = q ∙ end_more k r area t output a h ∙ rw (← e) refl;
              long = lx ∙ w.long;
              wide = ly ∙ w.wide;
            }

    pub playing_all : length t < 6 → stage r area output a ≡ script_of r₀ area₀ script output₀
    playing_all h = sym (w.rest ∙ end_none w.left r area t output a h)
