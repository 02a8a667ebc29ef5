-- R45 to R47, R60. A subscription entry, and what marks and frees it.
use Rattle.std.specs.Prelude.{ℕ, Bool, true, false, cond, not, ◌&&◌, List, eqb}
use Rattle.laws.specs.Lists.{index}
use Rattle.octets.specs.Zeros.{zeros}
use Rattle.frame.specs.Limits.{greatest_context}
use Rattle.connection.specs.State.{live_at}
use Rattle.connection.specs.declared.Connection.{Connection}
use Rattle.subscription.specs.Setters.{with_waiting}
use Rattle.subscription.specs.declared.Subscription.{Subscription}

-- R3. There are 32 subscription entries.
abbrev pub entry_count : ℕ
entry_count = 32

-- R61. Row g: a free entry.
abbrev pub free : Subscription
free =
    record {
      used = false;
      waiting = false;
      connection = 0;
      context_count = 0;
      emitter = 0;
      event = 0;
      object = 0;
      method = 0;
      context = zeros greatest_context;
    }

-- R46. The entry is free.
unfoldable pub is_unused : Subscription → Bool
is_unused s = not s.used

-- R47. The entry waits for its notification to be taken.
unfoldable pub is_waiting : Subscription → Bool
is_waiting s = s.waiting

-- R45. Two used entries are the same subscription, whatever their contexts.
unfoldable pub is_twin : Subscription → Subscription → Bool
is_twin s t =
    s.used && t.used && eqb s.connection t.connection && eqb s.emitter t.emitter && eqb s.event t.event
    && eqb s.object t.object && eqb s.method t.method

-- R46. The place of the entry of the same subscription, or 32.
abbrev pub twin_at : Subscription → List Subscription → ℕ
twin_at s entries = index (is_twin s) entries

-- R46. The lowest free entry, or 32.
abbrev pub lowest_unused : List Subscription → ℕ
lowest_unused entries = index is_unused entries

-- R49. The lowest entry that waits, or 32.
abbrev pub lowest_waiting : List Subscription → ℕ
lowest_waiting entries = index is_waiting entries

-- R47. What a change of that mute makes of an entry.
unfoldable pub marked_of : ℕ → Subscription → Subscription
marked_of emitter s = cond (s.used && eqb s.emitter emitter) (with_waiting s true) s

-- R50. Its notification was taken: the entry waits no more.
unfoldable pub told_of : Subscription → Subscription
told_of s = with_waiting s false

-- R60. A used entry of a connection that is not open is freed.
unfoldable pub swept_of : List Connection → Subscription → Subscription
swept_of cs s = cond (s.used && not (live_at cs s.connection)) free s
