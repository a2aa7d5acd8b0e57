-- The number and the word of each refusal, and the number of each layer.
use Rattle.std.specs.Prelude.{ℕ, List, codes}
use Rattle.home.specs.declared.fault.Refusal.{Refusal}
use Rattle.home.specs.declared.fault.Refusal.TheVariants.{NoKey, Held, TimeSpent, NoPlace, MovedOn, NotYours, TooEarly, PlaceTaken, WrongState, SheetFull, NoneLeft, Unchecked, DayFull, ShortTable, BadLine, BadSize, BadRow, NotClean, TwoLasts}
use Rattle.home.specs.declared.fault.Layer.{Layer}
use Rattle.home.specs.declared.fault.Layer.TheVariants.{Home, Coordinator, Above}

abbrev pub number_of : Refusal → ℕ
number_of NoKey = 1
number_of Held = 2
number_of TimeSpent = 3
number_of NoPlace = 4
number_of MovedOn = 5
number_of NotYours = 6
number_of TooEarly = 7
number_of PlaceTaken = 8
number_of WrongState = 9
number_of SheetFull = 10
number_of NoneLeft = 11
number_of Unchecked = 12
number_of DayFull = 13
number_of ShortTable = 14
number_of BadLine = 15
number_of BadSize = 16
number_of BadRow = 17
number_of NotClean = 18
number_of TwoLasts = 19

abbrev pub word_of : Refusal → List ℕ
word_of NoKey = codes "no key"
word_of Held = codes "held"
word_of TimeSpent = codes "time spent"
word_of NoPlace = codes "no place"
word_of MovedOn = codes "moved on"
word_of NotYours = codes "not yours"
word_of TooEarly = codes "too early"
word_of PlaceTaken = codes "place taken"
word_of WrongState = codes "wrong state"
word_of SheetFull = codes "sheet full"
word_of NoneLeft = codes "none left"
word_of Unchecked = codes "unchecked"
word_of DayFull = codes "day full"
word_of ShortTable = codes "short table"
word_of BadLine = codes "bad line"
word_of BadSize = codes "bad size"
word_of BadRow = codes "bad row"
word_of NotClean = codes "not clean"
word_of TwoLasts = codes "two lasts"

-- 1 home, 2 coordinator, 3 above
abbrev pub layer_of : Layer → ℕ
layer_of Home = 1
layer_of Coordinator = 2
layer_of Above = 3
