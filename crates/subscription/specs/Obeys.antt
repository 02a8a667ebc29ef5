-- R61g to R61i, R61m. The record rules of the subscription entries.
use Rattle.std.specs.Prelude.{ℕ, Bool, not, ◌&&◌, ◌||◌, List, leb, eqb, drop}
use Rattle.octets.specs.Zeros.{all_zero}
use Rattle.frame.specs.Limits.{greatest_context}
use Rattle.connection.specs.State.{live_at}
use Rattle.connection.specs.declared.Connection.{Connection}
use Rattle.objects.specs.Methods.{change_event, is_mute}
use Rattle.subscription.specs.State.{is_twin}
use Rattle.subscription.specs.declared.Subscription.{Subscription}

-- R61. Row g: an entry that is not used, all zero.
unfoldable pub is_free : Subscription → Bool
is_free s =
    not s.used && not s.waiting && eqb s.connection 0 && eqb s.emitter 0 && eqb s.event 0 && eqb s.object 0
    && eqb s.method 0 && eqb s.context_count 0 && all_zero s.context

-- R61. Row m: a context has at most 64 bytes, and the bytes held past them are zero.
unfoldable pub is_context_kept : ℕ → List ℕ → Bool
is_context_kept count context = leb count greatest_context && all_zero (drop count context)

-- R61. Rows h and m: a used entry has an open connection, a mute, event 1.1 and a context that is kept.
unfoldable pub is_sound : List Connection → Subscription → Bool
is_sound cs s =
    s.used && live_at cs s.connection && is_mute s.emitter && eqb s.event change_event
    && is_context_kept s.context_count s.context

-- R61. Rows g, h and m: one entry keeps the record rules.
unfoldable pub entry_obeys : List Connection → Subscription → Bool
entry_obeys cs s = is_free s || is_sound cs s

-- R61. Row i: two entries are not the same subscription.
unfoldable pub apart : Subscription → Subscription → Bool
apart s t = not (is_twin s t)
