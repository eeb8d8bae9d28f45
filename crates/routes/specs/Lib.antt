pub mod Routes
pub mod RouteReplies
pub mod RouteLaws
pub mod Paths
