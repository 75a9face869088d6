mod Lists
mod PiecesOfOneSize
mod Requests
