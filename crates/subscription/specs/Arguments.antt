-- R40, R44. The arguments of 3.1 and 3.2.
use Rattle.std.specs.Prelude.{ℕ, ◌-◌, Bool, true, false, not, ◌&&◌, List, ◌++◌, eqb, take, drop}
use Rattle.octets.specs.Numbers.{be32_at}
use Rattle.octets.specs.Zeros.{zeros}
use Rattle.frame.specs.Limits.{greatest_context}
use Rattle.objects.specs.Methods.{change_event, is_mute, is_subscribing}
use Rattle.objects.specs.Tests.{context_given, context_start_given}
use Rattle.subscription.specs.declared.Subscription.{Subscription}

-- R44. The context that 3.1 gives, and zeros behind it: 64 bytes.
unfoldable pub context_held : List ℕ → List ℕ
context_held part = take (context_given part) (drop context_start_given part) ++ zeros (greatest_context - context_given part)

-- R44. The subscription of these arguments, for connection n; 3.2 ends before the context.
unfoldable pub subscription_from : ℕ → List ℕ → Subscription
subscription_from n part =
    record {
      used = true;
      waiting = false;
      connection = n;
      context_count = context_given part;
      emitter = be32_at part 0;
      event = be32_at part 4;
      object = be32_at part 8;
      method = be32_at part 12;
      context = context_held part;
    }

-- R40. Status 6: no mute as emitter, or another event than 1.1.
unfoldable pub is_strange : List ℕ → Bool
is_strange part = not (is_mute (be32_at part 0) && eqb (be32_at part 4) change_event)

-- R40. Status 6: add or remove with a strange emitter.
unfoldable pub is_emitter_bad : ℕ → List ℕ → Bool
is_emitter_bad m part = is_subscribing m && is_strange part
