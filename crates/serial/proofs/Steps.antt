-- Every call keeps the invariant.
use Rattle.std.proofs.Common.{ℕ, List, ◌∷◌, Option}
use Rattle.coordinator.specs.declared.call.Call.{Call}
use Rattle.serial.specs.Events.{Event, Store, stepped}
use Rattle.serial.proofs.Invariant.{Good, Inv}
use Rattle.serial.proofs.Turns.{keeps_abort, keeps_begin, keeps_freeze}
use Rattle.serial.proofs.ReadSteps.{keeps_read}
use Rattle.serial.proofs.WriteSteps.{keeps_write}
use Rattle.serial.proofs.Renews.{keeps_renew}
use Rattle.serial.proofs.Decides.{keeps_decide}
use Rattle.serial.proofs.Settles.{keeps_settle}
use Rattle.serial.proofs.Turnwise.{in_turn, keeps_runs}

keeps_inv : {V : Type 0} (x : ℕ → Option V) (es : List (Event V)) (st : Store V) → Inv x es st → (call : Call V) → Inv x ((stepped st call).event ∷ es) (stepped st call).store
keeps_inv x es st i (Call.Begin p) = keeps_begin x es st i p
keeps_inv x es st i (Call.Read p k) = keeps_read x es st i p k
keeps_inv x es st i (Call.Write p k v) = keeps_write x es st i p k v
keeps_inv x es st i (Call.Freeze p) = keeps_freeze x es st i p
keeps_inv x es st i (Call.Renew p) = keeps_renew x es st i p
keeps_inv x es st i (Call.Decide p) = keeps_decide x es st i p
keeps_inv x es st i (Call.Settle p) = keeps_settle x es st i p
keeps_inv x es st i (Call.Abort p) = keeps_abort x es st i p

pub keeps : {V : Type 0} (x : ℕ → Option V) (es : List (Event V)) (st : Store V) → Good x es st → (call : Call V) → Good x ((stepped st call).event ∷ es) (stepped st call).store
keeps x es st g call =
    record {
      inv = keeps_inv x es st g.inv call;
      runs = keeps_runs es st g.inv.many g.runs call;
      orderly = (in_turn x es st g.inv g.runs call, g.orderly);
    }
