use Rattle.atspi_tree_model.proofs.Deep.{load_complete}
use Rattle.atspi_tree_model.proofs.RootAlone.{load_is_view, news_keep_view}
use Rattle.atspi_tree_model.proofs.laws.views_stay_views.Goals as goal

pub returns : goal.returns
returns c = record { loaded = load_is_view; kept = news_keep_view; complete = load_complete }
