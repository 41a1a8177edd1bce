-- What a store is opened with (own).
use Rattle.std.specs.Prelude.{◌≡◌, List, length}
use Rattle.mc_item.specs.Config.{IsBounded, IsSound}
use Rattle.mc_item.specs.declared.config.Config.{Config}
use Rattle.mc_board.specs.{Histories.blind, Views.AreOwners, Views.BoardView, Views.locks_of}
use Rattle.mc_hits.specs.Views.{AreHands, HitsView, tables_of}
use Rattle.mc_store.specs.Locked.{histories_for, locks_for}
use Rattle.mc_store.specs.declared.tokens.Tokens.{Tokens}

-- a store of a configuration can be opened on this board and these queues, with these tokens of theirs
pub record AreParts (board : BoardView) (config : Config) (queues : List HitsView) (tokens : Tokens) : Type 0 where
  pub bounded : IsBounded config
  pub sound : IsSound config
  pub locks : locks_of board.counts ≡ histories_for config
  pub owned : AreOwners board.table (locks_for config) (histories_for config) tokens.owners.items
  pub unseen : tokens.seen ≡ record { board = board.table; sight = blind }
  pub queued : length queues ≡ length config.sizes
  pub handed : AreHands (tables_of queues) config.callers tokens.hands.items
