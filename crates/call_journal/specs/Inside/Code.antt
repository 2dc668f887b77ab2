-- How the logic stores what contracts see of a book and its desk, so that two can be told apart.
use Rattle.std.specs.Prelude.{List}
use Rattle.std.specs.Coded.{Coded, codes, coded_list}
use Rattle.task_board.specs.Inside.Code.{task_code, lent_code}
use Rattle.call_journal.specs.Desks.{Spot}
use Rattle.call_journal.specs.Books.{BookValue}

pub book_code : Coded BookValue
book_code = hlevel (codes, task_code)

pub spot_code : Coded Spot
spot_code = hlevel (codes, lent_code)

pub desk_code : Coded (List Spot)
desk_code = coded_list spot_code
