-- A datagram's promise allows one result. Assumes nothing.
use Rattle.answers.specs.Numbers.{resetting_numbers}
use Rattle.answers.proofs.Tells.{answers_tell}
use Rattle.endpoint.proofs.Tells.{one_result, one_area}
use Rattle.reset.specs.Tell.{ResettingsTell}

pub resettings_told : ResettingsTell
resettings_told =
    record {
      one = λ state area datagram r s x y p q. (
        one_result resetting_numbers answers_tell.resettings _ r s x y _ _ p q,
        one_area resetting_numbers answers_tell.resettings _ r s x y _ _ p q,
      );
    }
