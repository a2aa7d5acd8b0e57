-- What an order makes of the node that it is about.
--   quoted m key place rate      a node that can be held stands with the new rate, at the first timestamp past its lease
--   withdrawn m key place        a node that can be held stays as it was
--   kept m key t                 the standing version lasts until t
--   ordered m order              what any order comes to
--   served m order               what it leaves of the home
--   told m order                 whether it was done, or why not
use Rattle.std.specs.Prelude.{ℕ, ◌+◌, ℤ, Some, None, Option, Result}
use Rattle.std.specs.List.{slice_get}
use Rattle.home.specs.declared.fault.Fault.{Fault}
use Rattle.home.specs.declared.row.Row.{Row}
use Rattle.home.specs.declared.row.Change.TheVariants.{Free, Hold, Renew}
use Rattle.home.specs.Rows.{Outcome, refuses, grants}
use Rattle.home.specs.Meaning.{Meaning, after, answer, changed, no_key, nothing}
use Rattle.kinds.specs.Words.{with_rate}
use Rattle.kinds.specs.declared.node.Node.{Node}
use Rattle.quotes.specs.declared.order.Order.{Order}
use Rattle.quotes.specs.declared.order.Order.TheVariants.{Quote, Withdraw, Take, Release, Keep}

abbrev pub written : ℤ → Row Node → Row Node
written rate row = record { value = with_rate row.value rate; wts = row.rts + 1; rts = row.rts + 1; holder = 0 }

abbrev pub after_hold : (Row Node → Row Node) → Outcome Node → Outcome Node
after_hold f (refuses cause) = refuses cause
after_hold f (grants row) = grants (f row)

unfoldable pub quoted : Meaning Node → ℕ → ℕ → ℤ → Outcome Node
quoted m key place rate = after_hold (written rate) (changed m key (Hold place))

abbrev pub let_go : Row Node → Row Node
let_go row = record { value = row.value; wts = row.wts; rts = row.rts; holder = 0 }

unfoldable pub withdrawn : Meaning Node → ℕ → ℕ → Outcome Node
withdrawn m key place = after_hold let_go (changed m key (Hold place))

abbrev pub kept_at : Meaning Node → ℕ → ℕ → Option (Row Node) → Outcome Node
kept_at m key t None = refuses no_key
kept_at m key t (Some row) = changed m key (Renew row.wts t t)

unfoldable pub kept : Meaning Node → ℕ → ℕ → Outcome Node
kept m key t = kept_at m key t (slice_get m.rows key)

abbrev pub key_of : Order → ℕ
key_of (Quote place key rate) = key
key_of (Withdraw place key) = key
key_of (Take place key) = key
key_of (Release place key) = key
key_of (Keep key t) = key

abbrev pub desk_of : Order → ℕ
desk_of (Quote place key rate) = place
desk_of (Withdraw place key) = place
desk_of (Take place key) = place
desk_of (Release place key) = place
desk_of (Keep key t) = 0

abbrev pub ordered : Meaning Node → Order → Outcome Node
ordered m (Quote place key rate) = quoted m key place rate
ordered m (Withdraw place key) = withdrawn m key place
ordered m (Take place key) = changed m key (Hold place)
ordered m (Release place key) = changed m key (Free place)
ordered m (Keep key t) = kept m key t

abbrev pub served : Meaning Node → Order → Meaning Node
served m order = after m (key_of order) (ordered m order)

abbrev pub told : Meaning Node → Order → Result (Unit {0}) Fault
told m order = answer nothing (desk_of order) (key_of order) (ordered m order)
