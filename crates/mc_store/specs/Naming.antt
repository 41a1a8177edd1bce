-- A default board, configuration and queues, for a name that picks none.
use Rattle.std.specs.Prelude.{List, []}
use Rattle.mc_item.specs.Config.{usual_config}
use Rattle.mc_item.specs.declared.config.Config.{Config}
use Rattle.mc_board.specs.Views.{BoardView}
use Rattle.mc_hits.specs.Views.{HitsView}

-- a board without locks
abbrev pub some_board : BoardView
some_board =
    record {
      table = record { words = 0; slots = 0; views_name = 0; atom = 0; block = 0; offset = 0; slot_names = [] };
      counts = record { stripes = 0; classes = 0; callers = 0 };
    }

-- the usual configuration, without callers
abbrev pub some_config : Config
some_config = usual_config 0

-- no queues
abbrev pub some_queues : List HitsView
some_queues = []
