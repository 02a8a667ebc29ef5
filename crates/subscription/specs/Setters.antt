-- A subscription entry with one part changed: no rule is here.
use Rattle.std.specs.Prelude.{ℕ, Bool, List}
use Rattle.octets.specs.Zeros.{zeros}
use Rattle.frame.specs.Limits.{greatest_context}
use Rattle.subscription.specs.declared.Subscription.{Subscription}

-- An entry, waiting or not.
abbrev pub with_waiting : Subscription → Bool → Subscription
with_waiting s waiting =
    record {
      used = s.used;
      waiting = waiting;
      connection = s.connection;
      context_count = s.context_count;
      emitter = s.emitter;
      event = s.event;
      object = s.object;
      method = s.method;
      context = s.context;
    }

-- A subscription with another context, of that count and held in those bytes.
abbrev pub with_context : Subscription → ℕ → List ℕ → Subscription
with_context s count context =
    record {
      used = s.used;
      waiting = s.waiting;
      connection = s.connection;
      context_count = count;
      emitter = s.emitter;
      event = s.event;
      object = s.object;
      method = s.method;
      context = context;
    }

-- A subscription with an empty context.
abbrev pub without_context : Subscription → Subscription
without_context s = with_context s 0 (zeros greatest_context)
