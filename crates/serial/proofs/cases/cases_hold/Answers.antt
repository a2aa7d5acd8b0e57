-- The worked cases hold: the rules compute each of them.
use Rattle.std.proofs.Common.{refl}
use Rattle.home.specs.Meaning.{changed, looked}
use Rattle.coordinator.specs.Tables.{entered}
use Rattle.coordinator.specs.Calls.{begin_turn, decide_turn, freeze_turn, holding_at, read_call, reading_new, renew_call, renewing_at, settle_call, write_call}
use Rattle.serial.specs.Events.{stepped}
use Rattle.serial.specs.Cases.{AllCases}
use Rattle.serial.proofs.cases.cases_hold.Goals as goal

-- one line for each case
all_cases : AllCases
unfolding stepped entered begin_turn read_call reading_new write_call holding_at freeze_turn renew_call renewing_at decide_turn settle_call changed looked
all_cases = (
  ((refl, refl, (refl, tt)), tt),
  (
    ((refl, refl, (refl, (refl, tt))), tt),
    (
      ((refl, refl, (refl, (refl, tt))), tt),
      (
        ((refl, refl, (refl, (refl, tt))), tt),
        (
          ((refl, refl, (refl, (refl, tt))), ((refl, refl, (refl, (refl, tt))), tt)),
          (
            ((refl, refl, tt), tt),
            (
              ((refl, refl, (refl, tt)), tt),
              (
                ((refl, refl, refl, refl), ((refl, refl, refl, tt), ((refl, refl, refl, tt), tt))),
                tt,
              ),
            ),
          ),
        ),
      ),
    ),
  ),
)

pub returns : goal.returns
returns c = record { count = refl; hold = all_cases }
