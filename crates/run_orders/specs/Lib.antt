pub mod RunOrdered
